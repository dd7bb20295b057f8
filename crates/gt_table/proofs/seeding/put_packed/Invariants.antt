use Rattle.std.proofs.Common.{◌≡◌, drop}
use Rattle.std.specs.FinMap as map
use Rattle.gt_base.specs.Held.{packed_values}
use Rattle.gt_table.proofs.seeding.put_packed.Given as goal

abbrev pub invariant-loop-i : goal.invariant-loop-i
invariant-loop-i l = map.from_entries l.names.entries ≡ packed_values (drop l.i l.packed)
