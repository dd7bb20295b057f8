-- References in a list.
use Rattle.std.specs.Prelude.{ℕ, Bool, nat_eq, if◌then◌else◌, List, [], ◌∷◌, Option, map as map_list}
use Rattle.std.specs.List.{starts_with, list_all}
use Rattle.gt_model.specs.declared.reference.RefValue.{RefValue}
use Rattle.gt_slots.specs.Present.{present}

abbrev pub begins : List ℕ → List ℕ × (List (ℕ × Option (List ℕ)) × ℕ) → Bool
begins prefix e = starts_with nat_eq e.0 prefix

-- the entries at the front whose names begin so
abbrev pub taken : List ℕ → List (List ℕ × (List (ℕ × Option (List ℕ)) × ℕ)) → List (List ℕ × (List (ℕ × Option (List ℕ)) × ℕ))
taken prefix [] = []
taken prefix (e ∷ es) = if begins prefix e then e ∷ taken prefix es else []

abbrev pub all_begin : List ℕ → List (List ℕ × (List (ℕ × Option (List ℕ)) × ℕ)) → Bool
all_begin prefix es = list_all (begins prefix) es

-- what they name at a position
abbrev pub values_of : ℕ → ℕ → List (List ℕ × (List (ℕ × Option (List ℕ)) × ℕ)) → List RefValue
values_of start p es = map_list (λ e. record { name = e.0; value = e.1 }) (present start p es)
