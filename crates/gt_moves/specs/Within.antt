-- Which entries moves are of, and to which files.
use Rattle.std.specs.Prelude.{◌≡◌, ℕ, ◌+◌, ◌<◌, ◌≤◌, List, length, Some, slice_get}
use Rattle.gt_model.specs.Batches.{new_files}
use Rattle.gt_model.specs.declared.added.Added.{Added}
use Rattle.gt_model.specs.declared.entry.Entry.{Entry}
use Rattle.gt_moves.specs.declared.moved.Move.{Move}

-- A move is of one of the entries past a position, with its position and its path, and to a pack among the new files.
pub record IsWithin (begin next : ℕ) (entries : List Entry) (m : Move) : Type 0 where
  pub number : ℕ
  pub entry : Entry
  pub there : slice_get entries number ≡ Some entry
  pub position : m.position ≡ number + (begin + 1)
  pub first : begin + 1 ≤ m.position
  pub last : m.position ≤ begin + length entries
  pub path : m.path ≡ entry.path
  pub kind : m.place.file.kind ≡ 5
  pub from : next ≤ m.place.file.number
  pub below : m.place.file.number < next + new_files entries

-- It is the move of this record that an entry added.
pub record IsMoveOf (e : Entry) (a : Added) (m : Move) : Type 0 where
  pub position : m.position ≡ e.position
  pub path : m.path ≡ e.path
  pub name : m.name ≡ a.name
