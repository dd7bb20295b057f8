-- Finding a record by its name.
use Rattle.std.specs.Prelude.{◌≡◌, ℕ, true, List, [], ◌∷◌, Option, Some, None, slice_get, slice_index_or, bytes_eq, if◌then◌else◌, ◌<◌, length}
use Rattle.std.specs.Option.{option_map}
use Rattle.gt_pack.specs.declared.placed.Placed.{Placed}
use Rattle.gt_pack.specs.Spelling.{above}

-- The names rise, the first above `before`.
abbrev pub Rises : Option (List ℕ) → List Placed → Type 0
Rises before [] = Unit {0}
Rises before (e ∷ es) = (above before e.name ≡ true) × Rises (Some e.name) es

-- place and length of the record of this name
abbrev pub find_in : List Placed → List ℕ → Option (ℕ × ℕ)
find_in [] name = None
find_in (e ∷ es) name = if bytes_eq e.name name then Some (e.place, e.len) else find_in es name

-- the name, place and length of the record of this index, from 0
abbrev pub item_of : List Placed → ℕ → Option (List ℕ × ℕ × ℕ)
item_of es i = option_map (λ e. (e.name, e.place, e.len)) (slice_get es i)

-- The record of this index has the name, and it is the one that is found.
pub record IsFound (es : List Placed) (name : List ℕ) (i : ℕ) : Type 0 where
  pub within : i < length es
  pub found : (other : Placed) → find_in es name ≡ Some ((slice_index_or es i other).place, (slice_index_or es i other).len)
