use Rattle.std.proofs.Common.{◌≡◌, ◌++◌, drop, flat_map}
use Rattle.gt_model.specs.Batches.{written}
use Rattle.gt_plain_jobs.proofs.batches.all_written.Given as goal

-- what was found, and what is left to look through
abbrev pub invariant-loop-entry : goal.invariant-loop-entry
invariant-loop-entry l = l.names.items ++ flat_map (λ e. written e.change) (drop l.entry-index l.entries) ≡ flat_map (λ e. written e.change) l.entries
