use Rattle.std.proofs.Common.{◌≡◌, ℕ, List, drop}
use Rattle.std.specs.FinMap as map
use Rattle.gt_slots.specs.Slots.{items_of}
use Rattle.gt_reftable.specs.Tracks.{trimmed}
use Rattle.gt_reftable.proofs.current.Current.trim.Given as goal

abbrev pub invariant-loop-update : goal.invariant-loop-update
invariant-loop-update l = (x : List ℕ) → trimmed l.position (drop l.update-index l.updates) x (items_of (map.get l.self x)) ≡ trimmed l.position l.updates x (items_of (map.get l.fn.self x))
