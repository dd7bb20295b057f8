use Rattle.std.proofs.Common.{◌≡◌, ◌≤◌, ◌-◌, length}
use Rattle.gt_bytes.specs.Reading.{many_at, counted_at}
use Rattle.gt_bytes.proofs.Loops.{IsBegun}
use Rattle.gt_pack.specs.Reading.{placed_at}
use Rattle.gt_pack.proofs.reading.read_counted.Given as goal

abbrev pub invariant-items : goal.invariant-items
invariant-items l = record { within : l.at ≤ length l.bytes; so_far : many_at (placed_at l.bytes) (l.count - l.counter) l.items l.at ≡ counted_at (placed_at l.bytes) l.bytes l.from; first : IsBegun (placed_at l.bytes) l.bytes l.from l.begin l.counter l.items l.at }
