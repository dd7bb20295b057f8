use Rattle.std.proofs.Common.{◌≡◌, ◌++◌, length, take}
use Rattle.std.specs.Int.{w32, to_be_bytes}
use Rattle.std.specs.List.{All, flat_map}
use Rattle.gt_entry.specs.Fits.{IsUpdate}
use Rattle.gt_entry.specs.Spelling.{update}
use Rattle.gt_entry.proofs.refs.put_refs.Given as goal

abbrev pub invariant-refs : goal.invariant-refs
invariant-refs l = record { spelled : l.out.items ≡ l.fn.out.items ++ (to_be_bytes w32 (length l.refs) ++ flat_map (update l.version) (take l.it-index l.refs)); typed : All IsUpdate (take l.it-index l.refs) }
