-- A record that is read at its place.
use Rattle.std.specs.Prelude.{◌≡◌, ◌≢◌, ℕ, ◌≤◌, List, [], take, drop, None, Result, Ok, Err}
use Rattle.std.specs.Option.{unwrap_or}
use Rattle.sha1.specs.Sha1.{sha1}
use Rattle.gt_disk.specs.Files.{Content, Rose}
use Rattle.gt_object.specs.Whole.{why_not}
use Rattle.gt_objset.specs.declared.place.Place.{Place}
use Rattle.gt_places.specs.declared.error.ReadError.{ReadError}
use Rattle.gt_places.specs.declared.error.ReadError.TheVariants.{Failed, Damaged, Memory}

-- what a file holds at a place
abbrev pub piece : Content → Place → List ℕ
piece file place = take place.len (drop place.at (unwrap_or file []))

-- These bytes are a record of this name.
pub record IsRecordOf (name bytes : List ℕ) : Type 0 where
  pub named : sha1 bytes ≡ name
  pub good : why_not bytes ≡ None

-- The record of that name is what is held at the place, or there is none; a failing disk and want of memory have their own causes.
abbrev pub Fetches : List ℕ → List ℕ → Result (List ℕ) ReadError → Type 0
Fetches held name (Ok whole) = (whole ≡ held) × IsRecordOf name whole
Fetches held name (Err Damaged) = IsRecordOf name held → ⊥
Fetches held name (Err Failed) = Unit {0}
Fetches held name (Err Memory) = Unit {0}

-- A failing disk is blamed where its count of faults rose, and only there: no fault hides behind another answer.
pub record ReadCause (before after : ℕ) (result : Result (List ℕ) ReadError) : Type 0 where
  pub later : before ≤ after
  pub failed : result ≡ Err Failed → Rose before after
  pub others : result ≢ Err Failed → after ≡ before
