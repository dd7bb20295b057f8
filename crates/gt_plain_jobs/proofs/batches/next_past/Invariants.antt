use Rattle.std.proofs.Common.{◌≡◌, drop}
use Rattle.gt_model.specs.Batches.{next_past}
use Rattle.gt_plain_jobs.proofs.batches.next_past.Given as goal

-- what is left leads to the same
abbrev pub invariant-loop-entry : goal.invariant-loop-entry
invariant-loop-entry l = next_past l.least (drop l.entry-index l.log) ≡ next_past l.next l.log
