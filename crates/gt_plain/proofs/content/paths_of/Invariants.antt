use Rattle.std.proofs.Common.{◌≡◌, ◌++◌, map}
use Rattle.gt_plain.proofs.content.paths_of.Given as goal

-- what was copied, and what is left to copy
abbrev pub invariant-loop-path : goal.invariant-loop-path
invariant-loop-path l = l.paths.items ++ l.path-iterator ≡ map (λ e. e.0) l.repos.entries
