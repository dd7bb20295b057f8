use Rattle.std.proofs.Common.{◌≡◌, ◌++◌, drop}
use Rattle.gt_plain_machine.proofs.recovering.copies_of.Given as goal

-- what was copied, and what is left to copy
abbrev pub invariant-loop-entry : goal.invariant-loop-entry
invariant-loop-entry l = l.copies ++ drop l.entry-index l.entries ≡ l.entries
