-- That moved records stand where they are moved to.
use Rattle.std.specs.Prelude.{◌≡◌, ℕ, ◌+◌, List, [], ◌∷◌, length, filter, Option, Some, slice_get, slice_range}
use Rattle.std.specs.FinMap as map
use Rattle.gt_apply.specs.Plan.{added_by}
use Rattle.gt_disk.specs.Files.{States, still}
use Rattle.gt_entry.specs.Fits.{HasSpelling}
use Rattle.gt_model.specs.Contents.{with_added}
use Rattle.gt_model.specs.Verdicts.{same_name}
use Rattle.gt_model.specs.declared.change.Change.{Change}
use Rattle.gt_model.specs.declared.entry.Entry.{Entry}
use Rattle.gt_moves.specs.declared.moved.Move.{Move}
use Rattle.gt_objset.specs.declared.place.Place.{Place}

-- ---- what a change adds

-- the last record that it adds under a name
abbrev pub last_added : Change → List ℕ → Option (List ℕ)
last_added change name = map.get (with_added map.empty (added_by change)) name

-- It adds one record of this name, and it is this one.
abbrev pub AddsOne : Change → List ℕ → List ℕ → Type 0
AddsOne change name whole = filter (λ a. same_name a.name name) (added_by change) ≡ record { name = name; whole = whole } ∷ []

-- A move is of one of the entries past a position, and it has the record that this one added last under its name, where the entry has a spelling.
pub record IsCarried (begin : ℕ) (entries : List Entry) (m : Move) : Type 0 where
  pub number : ℕ
  pub entry : Entry
  pub there : slice_get entries number ≡ Some entry
  pub position : m.position ≡ number + (begin + 1)
  pub carried : HasSpelling entry → last_added entry.change m.name ≡ Some m.whole.value

-- ---- what files hold

-- A file that a stop leaves as it is holds these bytes at the place, and the place has their length.
pub record IsStillAt (states : States) (place : Place) (whole : List ℕ) : Type 0 where
  pub bytes : List ℕ
  pub lasts : states place.file ≡ still (Some bytes)
  pub stands : slice_range bytes place.at (place.at + place.len) ≡ whole
  pub long : place.len ≡ length whole

-- A move is of one of the entries past a position, with its position and its path. The last record of the move's name that the entry adds stands at the move's place; where the entry has a spelling, it is the only one, and the move's.
pub record StandsMoved (begin : ℕ) (entries : List Entry) (states : States) (m : Move) : Type 0 where
  pub number : ℕ
  pub entry : Entry
  pub whole : List ℕ
  pub there : slice_get entries number ≡ Some entry
  pub position : m.position ≡ number + (begin + 1)
  pub path : m.path ≡ entry.path
  pub adds : last_added entry.change m.name ≡ Some whole
  pub once : HasSpelling entry → AddsOne entry.change m.name whole
  pub own : HasSpelling entry → m.whole.value ≡ whole
  pub held : IsStillAt states m.place whole
