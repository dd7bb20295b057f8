use Rattle.std.proofs.Common.{◌≡◌, drop, fold}
use Rattle.std.specs.FinMap as map
use Rattle.gt_base.specs.Held.{with_loose}
use Rattle.gt_table.proofs.seeding.put_loose.Given as goal

abbrev pub invariant-loop-value : goal.invariant-loop-value
invariant-loop-value l = fold with_loose (map.from_entries l.names.entries) (drop l.value-index l.loose) ≡ fold with_loose (map.from_entries l.fn.names.entries) l.loose
