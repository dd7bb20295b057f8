use Rattle.std.proofs.Common.{◌≡◌, ◌++◌, drop, map}
use Rattle.gt_plain_jobs.proofs.repos.paths_of.Given as goal

-- what was copied, and what is left to copy
abbrev pub invariant-loop-entry : goal.invariant-loop-entry
invariant-loop-entry l = l.paths.items ++ map (λ e. e.path) (drop l.entry-index l.entries) ≡ map (λ e. e.path) l.entries
