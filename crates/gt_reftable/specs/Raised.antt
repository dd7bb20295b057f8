-- A table whose floor was raised.
use Rattle.std.specs.Prelude.{◌≡◌, ℕ, ◌≤◌, List, Option, IfSome}
use Rattle.gt_reftable.specs.Tracks.{Track, value_in, IsTrackUpTo}
use Rattle.gt_reftable.specs.Table.{Table, refs_at, track_value, IsSlotUpTo}
use Rattle.gt_reftable.specs.Lean.{IsLeanRepo}

-- From the new floor on no reference differs at any position.
pub record Raises (to : ℕ) (old new : Table) : Type 0 where
  pub floor : new.floor ≡ to
  pub front : new.front ≡ old.front
  pub refs : (p : ℕ) (path : List ℕ) → to ≤ p → refs_at new p path ≡ refs_at old p path

-- The same of one repository.
pub record RaisesTrack (to : ℕ) (old new : Track) : Type 0 where
  pub value : (p : ℕ) (x : List ℕ) → to ≤ p → value_in new p x ≡ value_in old p x
  pub newest : (q : ℕ) → to ≤ q → IsTrackUpTo q old → IsTrackUpTo q new

-- The same of one that may not be known any more.
pub record RaisesSlot (to : ℕ) (old new : Option Track) : Type 0 where
  pub value : (p : ℕ) (x : List ℕ) → to ≤ p → track_value new p x ≡ track_value old p x
  pub newest : (q : ℕ) → to ≤ q → IsSlotUpTo q old → IsSlotUpTo q new
  pub lean : IfSome new (IsLeanRepo to)
