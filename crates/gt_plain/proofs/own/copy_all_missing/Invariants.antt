use Rattle.std.proofs.Common.{◌≡◌}
use Rattle.gt_plain.specs.Plain.{with_missing}
use Rattle.gt_plain.proofs.own.copy_all_missing.Given as goal

-- what is left leads to the same
abbrev pub invariant-loop-name : goal.invariant-loop-name
invariant-loop-name l = with_missing l.own l.name-iterator ≡ with_missing l.fn.own l.tree.entries
