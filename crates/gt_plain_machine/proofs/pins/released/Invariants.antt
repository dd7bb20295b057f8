use Rattle.std.proofs.Common.{◌≡◌, ◌++◌, drop}
use Rattle.gt_model.specs.Machine.{released}
use Rattle.gt_plain_machine.proofs.pins.released.Given as goal

-- what was kept, and what is left to look through
abbrev pub invariant-loop-pin : goal.invariant-loop-pin
invariant-loop-pin l = l.left ++ released (drop l.pin-index l.pins) l.number ≡ released l.pins l.number
