use Rattle.std.proofs.Common.{List, sym, ap, ◌∙◌}
use Rattle.gt_model.specs.declared.update.RefUpdate.{RefUpdate}
use Rattle.gt_stage.specs.Staging.{has_ref}
use Rattle.gt_stage.proofs.Tables.{has_ref-table}
use Rattle.gt_stage.proofs.refs.StagedRefs.has.Goals as goal

pub returns : goal.returns
returns c = c.contains_key.ensures ∙ sym (has_ref-table c.self.inside.table.entries c.args.name.now) ∙ ap (λ (us : List RefUpdate). has_ref us c.args.name.now) c.self.view_is
