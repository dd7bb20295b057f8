use Rattle.std.proofs.Common.{◌≡◌, ◌++◌, drop}
use Rattle.gt_apply.proofs.copies.copied_repos.Given as goal

-- what was copied, and what is left to copy
abbrev pub invariant-loop-repo : goal.invariant-loop-repo
invariant-loop-repo l = l.copy ++ drop l.repo-index l.list ≡ l.list
