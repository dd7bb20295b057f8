-- Where the records of own objects stand: in the files of a log's entries, or elsewhere.
use Rattle.std.specs.Prelude.{◌≡◌, ◌⊎◌, ℕ, ◌+◌, ◌-◌, ◌≤◌, List, length, Option, Some, None, slice_get}
use Rattle.gt_model.specs.declared.entry.Entry.{Entry}
use Rattle.gt_model.specs.Contents.{Content, at, own}
use Rattle.gt_moves.specs.Standing.{last_added}
use Rattle.gt_moves.specs.declared.moved.Move.{Move}
use Rattle.gt_object.specs.Whole.{why_not}
use Rattle.gt_objset.specs.declared.place.Place.{Place}
use Rattle.gt_objset.specs.Table.{Table, own_at}
use Rattle.gt_places.specs.Standing.{StandsAt}

-- A record stands at its place in the spelling of an entry, with its length there, and it is a good one; or else this is said of it.
abbrev pub IsGood : (List ℕ → Place → Type 0) → ℕ → List Entry → List ℕ → Place → Type 0
IsGood Held begin log whole place = (StandsAt begin log place whole × (place.len ≡ length whole) × (why_not whole ≡ None)) ⊎ Held whole place

-- That is so of the record of each own object, at the object's place.
abbrev pub AllGood : (List ℕ → Place → Type 0) → ℕ → List Entry → Content → (List ℕ → List ℕ → Option Place) → Type 0
AllGood Held begin log c places = (path x whole : List ℕ) (place : Place) → own c path x ≡ Some whole → places path x ≡ Some place → IsGood Held begin log whole place

-- At each position from the floor to the front the record of each own object stands in the file of an entry of the log, or else this is said of it.
pub record AreHeld (Held : List ℕ → Place → Type 0) (begin : ℕ) (base : Content) (log : List Entry) (t : Table) : Type 0 where
  pub held : (p : ℕ) → t.floor ≤ p → p ≤ t.front → AllGood Held begin log (at begin base log p) (own_at t p)

-- The base's own records: this is said of each, at the place that it has there.
abbrev pub BaseHeld : (List ℕ → Place → Type 0) → Content → (List ℕ → List ℕ → Option Place) → Type 0
BaseHeld Held base places = (path x whole : List ℕ) (place : Place) → own base path x ≡ Some whole → places path x ≡ Some place → Held whole place

-- This is said of the record that the move's entry added last under the move's name, at the place that it is moved to.
abbrev pub IsMoveHeld : (List ℕ → Place → Type 0) → ℕ → List Entry → Move → Type 0
IsMoveHeld Held begin log m = (e : Entry) (whole : List ℕ) → slice_get log (m.position - (begin + 1)) ≡ Some e → last_added e.change m.name ≡ Some whole → Held whole m.place
