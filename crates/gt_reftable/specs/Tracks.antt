-- The references of one repository at each position.
use Rattle.std.specs.Prelude.{◌≡◌, ℕ, ◌≤◌, ◌<◌, Bool, not, ◌&&◌, is_some, if◌then◌else◌, List, [], ◌∷◌, Option, Some, None, IsTrue}
use Rattle.std.specs.List.{list_any}
use Rattle.std.specs.Ordering.{eq_by_cmp}
use Rattle.std.specs.FinMap as map
use Rattle.std.specs.FinMap.{FinMap}
use Rattle.std.specs.Coded.{Coded, code_by, coded×, coded_ℕ, coded_list, coded_bool}
use Rattle.std.proofs.Common.{refl}
use Rattle.gt_model.specs.Contents.{key_cmp, is_zero, Names}
use Rattle.gt_model.specs.declared.update.RefUpdate.{RefUpdate}
use Rattle.gt_versions.specs.Versions.{last_at, IsUpTo, ready, put_at}
use Rattle.gt_versions.specs.Lives.{start_of, value_since}
use Rattle.gt_slots.specs.Slots as slots
use Rattle.gt_slots.specs.Present.{refs_since}
use Rattle.gt_slots.specs.Slots.{slots_code, items_of, slot_ready}

-- when the repository was made or deleted, the values of its references, and apart the references that are there at the
-- newest position
pub record Track : Type 0 where
  pub lives : List (ℕ × Bool) × ℕ
  pub refs : FinMap key_cmp (List (ℕ × Option (List ℕ)) × ℕ)
  pub current : FinMap key_cmp (List (ℕ × Option (List ℕ)) × ℕ)

abbrev pub track_code : Coded Track
track_code =
    code_by ((List (ℕ × Bool) × ℕ) × (FinMap key_cmp (List (ℕ × Option (List ℕ)) × ℕ) × FinMap key_cmp (List (ℕ × Option (List ℕ)) × ℕ)))
    (coded× (coded× (coded_list (coded× coded_ℕ coded_bool)) coded_ℕ) (coded× slots_code slots_code))
    (λ t. (t.lives, (t.refs, t.current))) (λ p. record { lives = p.0; refs = p.1.0; current = p.1.1 }) (λ _. refl)

-- where the repository was last made or deleted: what was written before doesn't count
abbrev pub start : Track → ℕ → ℕ
start t p = start_of (last_at t.lives.0 p None)

-- what a reference names at a position
abbrev pub value_in : Track → ℕ → List ℕ → Option (List ℕ)
value_in t p x = value_since (start t p) (last_at (items_of (map.get t.refs x)) p None)

-- the references that name something at a position
abbrev pub refs_of : Track → ℕ → Names
refs_of t p = refs_since (start t p) p t.refs

-- what values come to at a position, whenever they were given
abbrev pub named_at : ℕ → List (ℕ × Option (List ℕ)) → Option (List ℕ)
named_at p es = value_since 0 (last_at es p None)

-- nothing stands past this position, and what a reference names at it stands in `current` too
pub record IsInStep (q : ℕ) (t : Track) : Type 0 where
  pub lives : IsUpTo q t.lives.0
  pub refs : (name : List ℕ) → IsUpTo q (items_of (map.get t.refs name))
  pub current : (name : List ℕ) → IsUpTo q (items_of (map.get t.current name))
  pub newest : (name : List ℕ) → named_at q (items_of (map.get t.current name)) ≡ value_in t q name

-- Besides, `current` has no value of a reference that isn't there.
pub record IsTrackUpTo (q : ℕ) (t : Track) : Type 0 where
  pub values : IsInStep q t
  pub gone : (name : List ℕ) → value_in t q name ≡ None → items_of (map.get t.current name) ≡ []

-- none where a reference is deleted
abbrev pub given : List ℕ → Option (List ℕ)
given new = if is_zero new then None else Some new

-- one reference through an update of it or of another, or a check
abbrev pub step_new : Option (List ℕ) → Bool → Option (List ℕ) → Option (List ℕ)
step_new None here o = o
step_new (Some new) here o = if here then given new else o

abbrev pub step_updates : List RefUpdate → List ℕ → Option (List ℕ) → Option (List ℕ)
step_updates [] x o = o
step_updates (u ∷ us) x o = step_updates us x (step_new u.new (eq_by_cmp key_cmp x u.name) o)

-- an update has a place, and a check needs none
abbrev pub HasPlace : ℕ → Track → List ℕ → Option (List ℕ) → Type 0
HasPlace q t name None = Unit {0}
HasPlace q t name (Some new) = IsTrue (slot_ready q (map.get t.refs name)) × IsTrue (slot_ready q (map.get t.current name))

abbrev pub HasRoom : ℕ → Track → List RefUpdate → Type 0
HasRoom q t [] = Unit {0}
HasRoom q t (u ∷ us) = HasPlace q t u.name u.new × HasRoom q t us

-- Room may be more, and nothing else differs.
pub record IsRoomier (old new : Track) : Type 0 where
  pub lives : new.lives.0 ≡ old.lives.0
  pub refs : slots.IsRoomier old.refs new.refs
  pub current : slots.IsRoomier old.current new.current
  pub life_kept : (q : ℕ) → IsTrue (ready q old.lives) → IsTrue (ready q new.lives)

-- From position q on a reference is what f makes of it, and before that it is what it was.
pub record Moves (q : ℕ) (f : List ℕ → Option (List ℕ) → Option (List ℕ)) (old new : Track) : Type 0 where
  pub since_q : (p : ℕ) (x : List ℕ) → q ≤ p → value_in new p x ≡ f x (value_in old p x)
  pub earlier : (p : ℕ) (x : List ℕ) → p < q → value_in new p x ≡ value_in old p x
  pub newest : IsTrackUpTo q new

-- It is made or deleted.
pub record PutsLife (q : ℕ) (there : Bool) (old new : Track) : Type 0 where
  pub lives : new.lives.0 ≡ put_at q there old.lives.0
  pub refs : new.refs ≡ old.refs
  pub current : new.current ≡ map.empty

-- what an update does to the references: a new value from the position on, or nothing where it is a check
abbrev pub PutsNew : ℕ → List ℕ → Option (List ℕ) → FinMap key_cmp (List (ℕ × Option (List ℕ)) × ℕ) → FinMap key_cmp (List (ℕ × Option (List ℕ)) × ℕ) → Type 0
PutsNew q name None old new = new ≡ old
PutsNew q name (Some v) old new = slots.PutsRef q name (given v) old new

pub record PutsUpdate (q : ℕ) (u : RefUpdate) (old new : Track) : Type 0 where
  pub lives : new.lives ≡ old.lives
  pub refs : PutsNew q u.name u.new old.refs new.refs
  pub current : PutsNew q u.name u.new old.current new.current

-- an update or a check of this reference is among them
abbrev pub is_named : List ℕ → List RefUpdate → Bool
is_named x us = list_any (λ u. eq_by_cmp key_cmp x u.name) us

-- no value is left where the last one names nothing
abbrev pub step_trim : ℕ → Bool → List (ℕ × Option (List ℕ)) → List (ℕ × Option (List ℕ))
step_trim q here es = if here && not (is_some (named_at q es)) then [] else es

abbrev pub trimmed : ℕ → List RefUpdate → List ℕ → List (ℕ × Option (List ℕ)) → List (ℕ × Option (List ℕ))
trimmed q [] x es = es
trimmed q (u ∷ us) x es = trimmed q us x (step_trim q (eq_by_cmp key_cmp x u.name) es)

-- A reference has this value at the newest position.
pub record Seeds (q : ℕ) (name v : List ℕ) (old new : Track) : Type 0 where
  pub value : (x : List ℕ) → value_in new q x ≡ (if eq_by_cmp key_cmp x name then Some v else value_in old q x)
  pub newest : IsTrackUpTo q new
