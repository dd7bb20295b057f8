-- Where a record stands in the files of a base, and of a log's entries past it.
use Rattle.std.specs.Prelude.{◌≡◌, ◌⊎◌, ℕ, ◌+◌, List, length, Option, Some, None, slice_get, slice_range}
use Rattle.gt_model.specs.declared.entry.Entry.{Entry}
use Rattle.gt_model.specs.Contents.{Content, own}
use Rattle.gt_object.specs.Whole.{why_not}
use Rattle.gt_entry.specs.Spelling.{spelling}
use Rattle.gt_objset.specs.declared.place.Place.{Place}

-- The place is in the file of an entry of a log past a position, of kind 4 and numbered from that position on, and the record stands at it in the entry's spelling.
pub record StandsAt (begin : ℕ) (log : List Entry) (place : Place) (whole : List ℕ) : Type 0 where
  pub number : ℕ
  pub entry : Entry
  pub file : place.file ≡ record { kind = 4; number = number + (begin + 1) }
  pub there : slice_get log number ≡ Some entry
  pub stands : slice_range (spelling entry) place.at (place.at + place.len) ≡ whole

-- It is a record of a base, and the place is the one that it has there.
pub record IsBased (base : Content) (places : List ℕ → List ℕ → Option Place) (place : Place) (whole : List ℕ) : Type 0 where
  pub path : List ℕ
  pub name : List ℕ
  pub owned : own base path name ≡ Some whole
  pub placed : places path name ≡ Some place

-- A record stands at its place in a log past a base: in the spelling of an entry, with its length there, and it is a good one; or where the base has it.
abbrev pub StandsIn : ℕ → Content → (List ℕ → List ℕ → Option Place) → List Entry → Place → List ℕ → Type 0
StandsIn begin base places log place whole = (StandsAt begin log place whole × (place.len ≡ length whole) × (why_not whole ≡ None)) ⊎ IsBased base places place whole
