use Rattle.std.proofs.Common.{◌≡◌, ◌++◌, drop}
use Rattle.gt_slots.specs.Listing.{taken, all_begin, values_of}
use Rattle.gt_slots.proofs.listing.list_slots.Given as goal

abbrev pub invariant-loop-slot : goal.invariant-loop-slot
invariant-loop-slot l = record {
  done : l.out ++ values_of l.start l.position (taken l.prefix (drop l.slot-index l.slots)) ≡ l.fn.out ++ values_of l.start l.position (taken l.prefix l.slots);
  begin : all_begin l.prefix (drop l.slot-index l.slots) ≡ all_begin l.prefix l.slots;
}
