use Rattle.std.proofs.Common.{◌≡◌, ◌++◌}
use Rattle.gt_plain.proofs.refs.copies_of.Given as goal

-- what was copied, and what is left to copy
abbrev pub invariant-loop-name : goal.invariant-loop-name
invariant-loop-name l = l.copies.items ++ l.name-iterator ≡ l.tree.entries
