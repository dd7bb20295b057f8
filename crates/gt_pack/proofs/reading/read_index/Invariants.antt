use Rattle.std.proofs.Common.{◌≡◌, ◌≤◌, length, drop}
use Rattle.gt_pack.specs.Reading.{index_at}
use Rattle.gt_pack.proofs.reading.read_index.Given as goal

abbrev pub invariant-items : goal.invariant-items
invariant-items l = record { within : l.at ≤ length l.bytes; so_far : index_at l.bytes (drop l.item-index l.items) l.at ≡ index_at l.bytes l.items l.from }
