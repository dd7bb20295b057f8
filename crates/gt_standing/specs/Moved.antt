-- Own objects whose records have left the files of the entries that added them.
use Rattle.std.specs.Prelude.{◌≡◌, ℕ, ◌+◌, ◌<◌, ◌≤◌, List, [], ◌∷◌, Some, Any, slice_get}
use Rattle.gt_apply.specs.Plan.{added_by}
use Rattle.gt_disk.specs.Kinds.{entry_file}
use Rattle.gt_model.specs.declared.entry.Entry.{Entry}
use Rattle.gt_moves.specs.declared.moved.Move.{Move}
use Rattle.gt_objset.specs.Moved.{Repoints}
use Rattle.gt_objset.specs.Table.{Table, own_at}
use Rattle.gt_objset.specs.declared.place.Place.{Place}

-- The place is in the file of an entry past this position, which added the object, and the table has this place from there on, or from its floor on where that is later.
pub record IsAddedPast (to begin : ℕ) (log : List Entry) (t : Table) (p : ℕ) (path x : List ℕ) (place : Place) : Type 0 where
  pub number : ℕ
  pub entry : Entry
  pub there : slice_get log number ≡ Some entry
  pub file : place.file ≡ entry_file (number + (begin + 1))
  pub past : to < number + (begin + 1)
  pub since : number + (begin + 1) ≤ p
  pub at_path : entry.path ≡ path
  pub adds : Any (λ a. a.name ≡ x) (added_by entry.change)
  pub own : (r : ℕ) → t.floor ≤ r → number + (begin + 1) ≤ r → r ≤ p → own_at t r path x ≡ Some place

-- Up to this position no own object's record stands in an entry's file any more: where one does, the entry is a later one.
pub record AreMovedTo (to begin : ℕ) (log : List Entry) (t : Table) : Type 0 where
  pub each : (p : ℕ) (path x : List ℕ) (place : Place) → t.floor ≤ p → p ≤ t.front → own_at t p path x ≡ Some place → place.file.kind ≡ 4 → IsAddedPast to begin log t p path x place

-- One move after the other.
abbrev pub RepointsAll : List Move → Table → Table → Type 0
RepointsAll [] old new = new ≡ old
RepointsAll (m ∷ ms) old new = (mid : Table) × Repoints m.position m.path m.name m.place old mid × RepointsAll ms mid new
