use Rattle.std.proofs.Common.{◌≡◌, ◌-◌, length}
use Rattle.gt_model.specs.Machine.{free_from, free_number}
use Rattle.gt_plain_machine.proofs.pins.free_number.Given as goal

-- what is left leads to the same
abbrev pub invariant-loop-pin : goal.invariant-loop-pin
invariant-loop-pin l = free_from l.pins l.number (length l.pins - l._pin-index) ≡ free_number l.pins
