-- A table that has nothing that no position from its floor on needs.
use Rattle.std.specs.Prelude.{◌≡◌, ℕ, ◌+◌, ◌≤◌, Bool, true, not, ◌||◌, is_some, nat_eq, length, List, [], ◌∷◌, Option, IfSome}
use Rattle.std.specs.FinMap as map
use Rattle.gt_versions.specs.Ascending.{IsFrom}
use Rattle.gt_reftable.specs.Tracks.{Track}
use Rattle.gt_reftable.specs.Table.{Table}

-- a reference has a version, and of those at or before the floor at most one, which has a value
abbrev pub IsLeanRef : ℕ → List (ℕ × Option (List ℕ)) → Type 0
IsLeanRef floor [] = ⊥
IsLeanRef floor (e ∷ es) = (e.0 ≤ floor → is_some e.1 ≡ true) × IsFrom (floor + 1) es

-- a repository was made or deleted past the floor, or has a reference
abbrev pub is_needed : Track → Bool
is_needed t = not (nat_eq (length t.lives.0) 0) || not (nat_eq (length (map.entries t.refs)) 0)

pub record IsLeanRepo (floor : ℕ) (t : Track) : Type 0 where
  pub lives : IsFrom (floor + 1) t.lives.0
  pub refs : (name : List ℕ) → IfSome (map.get t.refs name) (λ s. IsLeanRef floor s.0)
  pub current : (name : List ℕ) → IfSome (map.get t.current name) (λ s. IsLeanRef floor s.0)
  pub needed : is_needed t ≡ true

pub record IsLean (t : Table) : Type 0 where
  pub repos : (path : List ℕ) → IfSome (map.get t.repos path) (IsLeanRepo t.floor)
