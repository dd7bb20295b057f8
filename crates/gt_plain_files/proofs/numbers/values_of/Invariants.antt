use Rattle.std.proofs.Common.{◌≡◌, ◌++◌, map}
use Rattle.gt_plain_files.proofs.numbers.values_of.Given as goal

-- what was copied, and what is left to copy
abbrev pub invariant-loop-number : goal.invariant-loop-number
invariant-loop-number l = l.numbers.items ++ l.number-iterator ≡ map (λ r. r.1) l.tree.entries
