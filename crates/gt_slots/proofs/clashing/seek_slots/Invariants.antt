use Rattle.std.proofs.Common.{◌≡◌, ◌++◌, codes, drop}
use Rattle.gt_slots.specs.Clashing.{seek}
use Rattle.gt_slots.proofs.clashing.seek_slots.Given as goal

abbrev pub invariant-loop-slot : goal.invariant-loop-slot
invariant-loop-slot l = record {
  done : seek l.start l.position l.gone (l.folder ++ codes "/") (drop l.slot-index l.slots) ≡ seek l.start l.position l.gone (l.folder ++ codes "/") l.slots;
}
