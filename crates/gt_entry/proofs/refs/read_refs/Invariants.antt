use Rattle.std.proofs.Common.{◌≡◌, ◌≤◌, ◌-◌, length}
use Rattle.gt_bytes.specs.Reading.{many_at, counted_at}
use Rattle.gt_entry.specs.Agrees.{Agrees}
use Rattle.gt_entry.specs.Reading.{update_at}
use Rattle.gt_entry.proofs.refs.read_refs.Given as goal

abbrev pub invariant-refs : goal.invariant-refs
invariant-refs l = record { within : l.at ≤ length l.bytes; agrees : Agrees l.set l.refs; so_far : many_at (update_at l.version l.bytes) (l.count - l.counter) l.refs l.at ≡ counted_at (update_at l.version l.bytes) l.bytes l.from }
