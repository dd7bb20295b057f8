use Rattle.std.proofs.Common.{◌≡◌, ◌++◌, drop}
use Rattle.gt_plain_files.proofs.filing.copied.Given as goal

-- what was copied, and what is left to copy
abbrev pub invariant-loop-item : goal.invariant-loop-item
invariant-loop-item l = l.copy.items ++ drop l.item-index l.taken ≡ l.taken
