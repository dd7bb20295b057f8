-- A text may break a rule at a place. Rules are tried in their order.
use Rattle.std.specs.Prelude.{List, [], ◌∷◌, Option, Some, None}

-- the first, or else the second
abbrev pub or_else : {A : Type 0} → Option A → Option A → Option A
or_else None b = b
or_else (Some a) b = Some a

-- the first that is there
abbrev pub first_of : {A : Type 0} → List (Option A) → Option A
first_of [] = None
first_of (a ∷ rest) = or_else a (first_of rest)
