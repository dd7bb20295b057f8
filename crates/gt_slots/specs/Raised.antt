-- What is left of references where no position before a new floor is asked for any more.
use Rattle.std.specs.Prelude.{◌≡◌, ◌<◌, ℕ, ◌+◌, ◌-◌, Bool, not, nat_eq, length, List, [], ◌∷◌, Option, IfSome}
use Rattle.std.specs.List.{retain_mut}
use Rattle.std.specs.FinMap as map
use Rattle.std.specs.FinMap.{FinMap}
use Rattle.gt_model.specs.Contents.{key_cmp}
use Rattle.gt_versions.specs.Ascending.{IsAscending}
use Rattle.gt_versions.specs.Raised.{raised_values}
use Rattle.gt_slots.specs.Slots.{items_of}

-- the versions of a reference raised, with the room that the others leave
abbrev pub raised_slot : ℕ → ℕ → List (ℕ × Option (List ℕ)) × ℕ → List (ℕ × Option (List ℕ)) × ℕ
raised_slot start to s = (raised_values start to s.0, s.1 + length s.0 - length (raised_values start to s.0))

-- a version is left
abbrev pub is_left : List (ℕ × Option (List ℕ)) × ℕ → Bool
is_left s = not (nat_eq (length s.0) 0)

-- the references that have a version left
abbrev pub raised_page : ℕ → ℕ → List (List ℕ × (List (ℕ × Option (List ℕ)) × ℕ)) → List (List ℕ × (List (ℕ × Option (List ℕ)) × ℕ))
raised_page start to es = retain_mut (λ e. is_left (raised_slot start to e.1)) (λ e. (e.0, raised_slot start to e.1)) es

-- the pages that have a reference left
abbrev pub raised_pages : ℕ → ℕ → List (List (List ℕ × (List (ℕ × Option (List ℕ)) × ℕ))) → List (List (List ℕ × (List (ℕ × Option (List ℕ)) × ℕ)))
raised_pages start to ps = retain_mut (λ p. not (nat_eq (length (raised_page start to p)) 0)) (raised_page start to) ps

-- the versions of each stand in ascending order
abbrev pub AreAscending : List (List ℕ × (List (ℕ × Option (List ℕ)) × ℕ)) → Type 0
AreAscending [] = Unit {0}
AreAscending (e ∷ es) = IsAscending e.1.0 × AreAscending es

-- Each reference has its versions raised, which ascend, and one that has none left isn't there.
pub record Raises (start to : ℕ) (old new : FinMap key_cmp (List (ℕ × Option (List ℕ)) × ℕ)) : Type 0 where
  pub items : (x : List ℕ) → items_of (map.get new x) ≡ raised_values start to (items_of (map.get old x))
  pub left : (x : List ℕ) → IfSome (map.get new x) (λ s. 0 < length s.0)
  pub ascending : (x : List ℕ) → IsAscending (items_of (map.get old x))
