use Rattle.std.proofs.Common.{◌≡◌, ◌++◌, drop}
use Rattle.gt_model.specs.Machine.{working, stepped}
use Rattle.gt_plain_machine.proofs.pins.stepped.Given as goal

-- what was done, and what is left to do
abbrev pub invariant-loop-pin : goal.invariant-loop-pin
invariant-loop-pin l = l.list ++ working (drop l.pin-index l.pins) l.number (stepped l.count) ≡ working l.pins l.number (stepped l.count)
