use Rattle.std.proofs.Common.{◌≡◌, ◌++◌, drop}
use Rattle.gt_apply.proofs.copies.copied_loose.Given as goal

-- what was copied, and what is left to copy
abbrev pub invariant-loop-loose : goal.invariant-loop-loose
invariant-loop-loose l = l.copy ++ drop l.loose-index l.list ≡ l.list
