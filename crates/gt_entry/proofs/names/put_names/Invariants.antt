use Rattle.std.proofs.Common.{◌≡◌, ◌++◌, length, take}
use Rattle.std.specs.Int.{w32, to_be_bytes}
use Rattle.std.specs.List.{All, flat_map}
use Rattle.gt_entry.specs.Fits.{IsName}
use Rattle.gt_entry.specs.Spelling.{same}
use Rattle.gt_entry.proofs.names.put_names.Given as goal

abbrev pub invariant-names : goal.invariant-names
invariant-names l = record { spelled : l.out.items ≡ l.fn.out.items ++ (to_be_bytes w32 (length l.names) ++ flat_map same (take l.name-index l.names)); typed : All IsName (take l.name-index l.names) }
