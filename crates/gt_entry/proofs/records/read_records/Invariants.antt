use Rattle.std.proofs.Common.{◌≡◌, ◌≤◌, ◌-◌, length}
use Rattle.gt_bytes.specs.Reading.{many_at, counted_at}
use Rattle.gt_entry.specs.Reading.{added_at}
use Rattle.gt_entry.proofs.records.read_records.Given as goal

abbrev pub invariant-items : goal.invariant-items
invariant-items l = record { within : l.at ≤ length l.bytes; so_far : many_at (added_at l.bytes) (l.count - l.counter) l.items l.at ≡ counted_at (added_at l.bytes) l.bytes l.from }
