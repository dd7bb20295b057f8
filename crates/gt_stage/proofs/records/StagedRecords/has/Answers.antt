use Rattle.std.proofs.Common.{List, sym, ap, ◌∙◌}
use Rattle.gt_model.specs.declared.added.Added.{Added}
use Rattle.gt_stage.specs.Staging.{has_record}
use Rattle.gt_stage.proofs.Tables.{has_record-table}
use Rattle.gt_stage.proofs.records.StagedRecords.has.Goals as goal

pub returns : goal.returns
returns c = c.contains_key.ensures ∙ sym (has_record-table c.self.inside.table.entries c.args.name.now) ∙ ap (λ (as' : List Added). has_record as' c.args.name.now) c.self.view_is
