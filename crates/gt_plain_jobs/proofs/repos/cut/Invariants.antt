use Rattle.std.proofs.Common.{◌≡◌, ◌++◌, [], drop}
use Rattle.gt_model.specs.Batches.{cut}
use Rattle.gt_plain_jobs.proofs.repos.cut.Given as goal

-- what was cut, and what is left to cut
abbrev pub invariant-loop-entry : goal.invariant-loop-entry
invariant-loop-entry l = l.repos.items ++ cut l.first (drop l.entry-index l.entries) ≡ cut [] l.entries
