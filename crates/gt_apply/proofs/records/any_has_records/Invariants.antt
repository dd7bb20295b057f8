use Rattle.std.proofs.Common.{◌≡◌, drop}
use Rattle.std.specs.List.{list_any}
use Rattle.gt_model.specs.Batches.{has_records}
use Rattle.gt_apply.specs.Steps.{seen}
use Rattle.gt_apply.proofs.records.any_has_records.Given as goal

-- what is left decides
abbrev pub invariant-loop-entry : goal.invariant-loop-entry
invariant-loop-entry l = list_any (λ e. has_records e.change) (seen (drop l.entry-index l.own)) ≡ list_any (λ e. has_records e.change) (seen l.own)
