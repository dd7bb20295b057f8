-- What is left of versions where no position before a new floor is asked for any more.
use Rattle.std.specs.Prelude.{ℕ, nat_le, Bool, ◌&&◌, is_some, if◌then◌else◌, List, [], ◌∷◌, ◌++◌, Option, Some, None}
use Rattle.gt_versions.specs.Versions.{last_at}

module _ {V : Type 0} where
  -- those past a position
  abbrev pub past : ℕ → List (ℕ × V) → List (ℕ × V)
  past to [] = []
  past to (e ∷ es) = if nat_le e.0 to then past to es else e ∷ past to es

-- a life that goes on is kept
abbrev pub kept_life : Option (ℕ × Bool) → List (ℕ × Bool)
kept_life None = []
kept_life (Some e) = if e.1 then e ∷ [] else []

module _ {V : Type 0} where
  -- a version that counts from a start on and has a value is kept
  abbrev pub kept_value : ℕ → Option (ℕ × Option V) → List (ℕ × Option V)
  kept_value start None = []
  kept_value start (Some e) = if nat_le start e.0 && is_some e.1 then e ∷ [] else []

-- the life that goes on at the floor, and all that begin or end past it
abbrev pub raised_lives : ℕ → List (ℕ × Bool) → List (ℕ × Bool)
raised_lives to es = kept_life (last_at es to None) ++ past to es

module _ {V : Type 0} where
  -- the value that counts at the floor, and all versions past it
  abbrev pub raised_values : ℕ → ℕ → List (ℕ × Option V) → List (ℕ × Option V)
  raised_values start to es = kept_value start (last_at es to None) ++ past to es
