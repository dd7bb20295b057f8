use Rattle.std.proofs.Common.{List, sym, ap, ◌∙◌}
use Rattle.gt_model.specs.declared.update.RefUpdate.{RefUpdate}
use Rattle.gt_stage.specs.Layout.{staged_in}
use Rattle.gt_stage.proofs.Tables.{staged_in-table}
use Rattle.gt_stage.proofs.refs.StagedRefs.get.Goals as goal

pub returns : goal.returns
returns c = c.copied.ensures ∙ c.get.ensures.value ∙ sym (staged_in-table c.self.inside.table.entries c.args.name.now) ∙ ap (λ (us : List RefUpdate). staged_in us c.args.name.now) c.self.view_is
