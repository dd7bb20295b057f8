-- How the places in a pack are found from the lengths of its records alone.
use Rattle.std.specs.Prelude.{ℕ, ◌+◌, List, [], ◌∷◌, length, fold}
use Rattle.std.specs.List.{flat_map}
use Rattle.std.specs.FinMap as map
use Rattle.std.specs.FinMap.{FinMap}
use Rattle.gt_apply.specs.Plan.{added_by}
use Rattle.gt_model.specs.Contents.{key_cmp}
use Rattle.gt_model.specs.declared.added.Added.{Added}
use Rattle.gt_model.specs.declared.entry.Entry.{Entry}
use Rattle.gt_pack.specs.declared.placed.Placed.{Placed}

-- the length of each record by its name
abbrev pub Lengths : Type 0
Lengths = FinMap key_cmp ℕ

abbrev pub with_lengths : Lengths → List Added → Lengths
with_lengths m added = fold (λ m a. map.insert m a.name (length a.whole)) m added

-- the lengths of the records that these entries add, of a name the last one
abbrev pub lengths_of : List Entry → Lengths
lengths_of entries = with_lengths map.empty (flat_map (λ e. added_by e.change) entries)

-- records of these lengths one after the other, where the first item begins here
abbrev pub spaced : ℕ → List (List ℕ × ℕ) → List Placed
spaced at [] = []
spaced at (r ∷ rs) = record { name = r.0; place = at + 24; len = r.1 } ∷ spaced (at + 24 + r.1) rs
