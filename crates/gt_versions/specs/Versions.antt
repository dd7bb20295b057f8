-- The values of one key, each from its position on.
use Rattle.std.specs.Prelude.{ℕ, Bool, false, ◌||◌, nat_lt, nat_le, nat_eq, if◌then◌else◌, List, [], ◌∷◌, ◌++◌, Option, Some}
use Rattle.gt_versions.specs.Ascending

module _ {V : Type 0} where
  -- none stands past this position
  abbrev pub IsUpTo : ℕ → List (ℕ × V) → Type 0
  IsUpTo = Ascending.IsUpTo

  -- the last at or before the position, or else the one that was found before
  abbrev pub last_at : List (ℕ × V) → ℕ → Option (ℕ × V) → Option (ℕ × V)
  last_at [] p found = found
  last_at (e ∷ es) p found = last_at es p (if nat_le e.0 p then Some e else found)

  -- whether the last one is from this position
  abbrev pub is_last : ℕ → List (ℕ × V) → Bool
  is_last q [] = false
  is_last q (e ∷ []) = nat_eq e.0 q
  is_last q (e ∷ f ∷ es) = is_last q (f ∷ es)

  -- there is room, or a version from this position that a new one takes the place of
  abbrev pub ready : ℕ → List (ℕ × V) × ℕ → Bool
  ready q v = nat_lt 0 v.1 || is_last q v.0

  -- without the last one where that is from here
  abbrev pub before : ℕ → List (ℕ × V) → List (ℕ × V)
  before q [] = []
  before q (e ∷ []) = if nat_eq e.0 q then [] else e ∷ []
  before q (e ∷ f ∷ es) = e ∷ before q (f ∷ es)

  -- a version behind the others, or in place of the last one where that is from here
  abbrev pub put_at : ℕ → V → List (ℕ × V) → List (ℕ × V)
  put_at q v es = before q es ++ (q, v) ∷ []
