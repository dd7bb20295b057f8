use Rattle.std.proofs.Common.{◌≡◌, ◌++◌, length, take}
use Rattle.std.specs.Int.{w32, to_be_bytes}
use Rattle.std.specs.List.{All, flat_map}
use Rattle.gt_entry.specs.Fits.{IsAdded}
use Rattle.gt_entry.specs.Spelling.{item}
use Rattle.gt_entry.proofs.records.put_records.Given as goal

abbrev pub invariant-records : goal.invariant-records
invariant-records l = record { spelled : l.out.items ≡ l.fn.out.items ++ (to_be_bytes w32 (length l.records) ++ flat_map item (take l.it-index l.records)); typed : All IsAdded (take l.it-index l.records) }
