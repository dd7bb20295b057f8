use Rattle.std.proofs.Common.{List, sym, ap, ◌∙◌}
use Rattle.gt_model.specs.declared.added.Added.{Added}
use Rattle.gt_stage.specs.Staging.{own_record}
use Rattle.gt_stage.proofs.Tables.{own_record-table}
use Rattle.gt_stage.proofs.records.StagedRecords.get.Goals as goal

pub returns : goal.returns
returns c = c.get.ensures.value ∙ sym (own_record-table c.self.inside.table.entries c.args.name.now) ∙ ap (λ (as' : List Added). own_record as' c.args.name.now) c.self.view_is
