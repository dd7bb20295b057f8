-- The words of the command line.
use Rattle.std.specs.Prelude.{ℕ, Bool, List, [], ◌∷◌, false, codes, nat_eq}
use Rattle.std.specs.Cmp.Lexicographic.{pointwise}

-- whether the words are the one word `replay`
abbrev pub is_replay : List (List ℕ) → Bool
is_replay [] = false
is_replay (w ∷ []) = pointwise nat_eq w (codes "replay")
is_replay (w ∷ v ∷ ws) = false
