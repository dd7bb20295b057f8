-- The list of the entries.
use Rattle.std.proofs.Common.{◌≡◌, ℕ, List, [], ◌∷◌, map, refl, ap}
use Rattle.std.specs.Map.{keys_of}
use Rattle.gt_reftext.specs.Packed.{Entry, to_ref}

-- its names are those of the entries
pub names_are : (es : List Entry) → map (λ r. r.name) (map to_ref es) ≡ keys_of es
names_are [] = refl
names_are (e ∷ es) = ap (λ (t : List (List ℕ)). e.0 ∷ t) (names_are es)
