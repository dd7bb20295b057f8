-- An object that is read at its place.
use Rattle.std.specs.Prelude.{◌≡◌, ℕ, List, Option, Some, None, Result, Ok, Err}
use Rattle.sha1.specs.Sha1.{sha1}
use Rattle.gt_disk.specs.Files.{Files}
use Rattle.gt_model.specs.declared.done.Done.{Done}
use Rattle.gt_model.specs.declared.done.Done.TheVariants.{Object}
use Rattle.gt_model.specs.declared.event.Event.TheVariants.{Cat}
use Rattle.gt_model.specs.declared.limits.Limits.{Limits}
use Rattle.gt_model.specs.declared.refusal.Refusal.{Refusal}
use Rattle.gt_model.specs.declared.refusal.Refusal.TheVariants.{Damaged}
use Rattle.gt_model.specs.Histories.{kept}
use Rattle.gt_model.specs.Machine.{State, StepOnAny, pin_of}
use Rattle.gt_objset.specs.declared.place.Place.{Place}
use Rattle.gt_places.specs.Reading.{piece, IsRecordOf}
use Rattle.gt_table.specs.Table.{Past, place_at}
use Rattle.gt_act.specs.Causes.{IsLike}

-- What is answered, if it isn't a refusal, is a record that has the name that was asked for.
abbrev pub IsNamedSo : List ℕ → Result Done Refusal → Type 0
IsNamedSo name (Ok (Object whole)) = sha1 whole ≡ name
IsNamedSo name (Ok done) = ⊥
IsNamedSo name (Err refusal) = Unit {0}

-- The machine makes a step of whose answer the same is kept, and a record that is answered has the name.
pub record CatHappens (limits : Limits) (s : State) (pin : ℕ) (name : List ℕ) (answer : Result Done Refusal) : Type 0 where
  pub told : Result Done Refusal
  pub step : StepOnAny limits s (Cat pin name) told s
  pub same : kept s (Cat pin name) answer ≡ kept s (Cat pin name) told
  pub like : IsLike answer told
  pub named : IsNamedSo name answer

-- The object has a place, of which this holds.
abbrev pub HeldSo : Option Place → (Place → Type 0) → Type 0
HeldSo None holds = ⊥
HeldSo (Some place) holds = holds place

-- The disk holds a record of that name at the object's place.
abbrev pub CatNamed : Past → State → ℕ → List ℕ → Files → Type 0
CatNamed past s pin name files = HeldSo (place_at past (pin_of s pin).position (pin_of s pin).path name) (λ place. sha1 (piece (files place.file) place) ≡ name)

-- The disk holds this at the object's place: what is answered, or no record of that name.
abbrev pub CatGives : Past → State → ℕ → List ℕ → Files → Result Done Refusal → Type 0
CatGives past s pin name files (Ok (Object whole)) = HeldSo (place_at past (pin_of s pin).position (pin_of s pin).path name) (λ place. whole ≡ piece (files place.file) place)
CatGives past s pin name files (Ok done) = Unit {0}
CatGives past s pin name files (Err (Damaged file at)) =
    HeldSo (place_at past (pin_of s pin).position (pin_of s pin).path name) (λ place. (file ≡ place.file) × (at ≡ place.at) × (IsRecordOf name (piece (files place.file) place) → ⊥))
CatGives past s pin name files (Err other) = Unit {0}
