use Rattle.gt_outside.specs.Places.{IsAllHere}
use Rattle.gt_outside.proofs.disk_slot.places_of.Given as goal

-- the disks so far stand in their places
abbrev pub invariant-loop-disk : goal.invariant-loop-disk
invariant-loop-disk l = IsAllHere l.yielded l.places.items
