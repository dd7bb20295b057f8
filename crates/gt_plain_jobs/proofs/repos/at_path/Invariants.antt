use Rattle.std.proofs.Common.{◌≡◌, ◌++◌, drop, filter}
use Rattle.gt_model.specs.Verdicts.{same_name}
use Rattle.gt_plain_jobs.proofs.repos.at_path.Given as goal

-- what was found, and what is left to look through
abbrev pub invariant-loop-entry : goal.invariant-loop-entry
invariant-loop-entry l = l.list ++ filter (λ e. same_name e.path l.path) (drop l.entry-index l.entries) ≡ filter (λ e. same_name e.path l.path) l.entries
