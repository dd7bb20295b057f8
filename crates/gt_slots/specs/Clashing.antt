-- References in each other's folders.
use Rattle.std.specs.Prelude.{ℕ, Bool, not, ◌&&◌, is_some, nat_eq, if◌then◌else◌, List, [], ◌∷◌, Option, Some, None, map as map_list}
use Rattle.std.specs.List.{list_any, cons_option}
use Rattle.gt_versions.specs.Versions.{last_at}
use Rattle.gt_versions.specs.Lives.{value_since}
use Rattle.gt_model.specs.Verdicts.{same_name}
use Rattle.gt_slots.specs.Listing.{begins}

abbrev pub is_gone : List (List ℕ) → List ℕ → Bool
is_gone gone name = list_any (same_name name) gone

-- a reference names something, and isn't gone
abbrev pub stands : ℕ → ℕ → List (List ℕ) → List ℕ × (List (ℕ × Option (List ℕ)) × ℕ) → Bool
stands start p gone e = is_some (value_since start (last_at e.1.0 p None)) && not (is_gone gone e.0)

-- the folders of a name, the outermost first
abbrev pub folders : List ℕ → List (List ℕ)
folders [] = []
folders (b ∷ bs) = cons_option (if nat_eq 47 b then Some [] else None) (map_list (λ f. b ∷ f) (folders bs))

-- a folder that is a reference which stands
abbrev pub standing : ℕ → ℕ → List (List ℕ) → List ℕ → Option (List (ℕ × Option (List ℕ)) × ℕ) → Option (List ℕ)
standing start p gone folder None = None
standing start p gone folder (Some s) = if stands start p gone (folder, s) then Some folder else None

-- the first that stands among those at the front whose names begin so: none where each begins so and doesn't stand
abbrev pub seek : ℕ → ℕ → List (List ℕ) → List ℕ → List (List ℕ × (List (ℕ × Option (List ℕ)) × ℕ)) → Option (Option (List ℕ))
seek start p gone prefix [] = None
seek start p gone prefix (e ∷ es) = if begins prefix e then (if stands start p gone e then Some (Some e.0) else seek start p gone prefix es) else Some None

abbrev pub sought : Option (Option (List ℕ)) → Option (List ℕ)
sought None = None
sought (Some o) = o
