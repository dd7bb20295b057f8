-- Names, each once, in order of first mention.
use Rattle.std.specs.Prelude.{ℕ, Bool, List, [], ◌∷◌, ◌++◌, Result, Ok, Err, if◌then◌else◌, fold}
use Rattle.std.specs.List.{list_any}
use Rattle.std.specs.Ordering.{nat_cmp, eq_by_cmp}
use Rattle.std.specs.Cmp.Lexicographic.{slice_cmp}

-- one more name, unless it is there
abbrev pub noted : List (List ℕ) → List ℕ → List (List ℕ)
noted names x = if list_any (λ y. eq_by_cmp (slice_cmp nat_cmp) x y) names then names else names ++ x ∷ []

-- the name of an entry, unless it is a submodule's
abbrev pub noted_entry : List (List ℕ) → Bool → List ℕ → List (List ℕ)
noted_entry names submodule id = if submodule then names else noted names id

-- each once, in order of first mention
abbrev pub distinct : List (List ℕ) → List (List ℕ)
distinct ids = fold noted [] ids

-- those of a content, if it has no fault
abbrev pub distinct_of : Result (List (List ℕ)) ℕ → List (List ℕ)
distinct_of (Ok ids) = distinct ids
distinct_of (Err at) = []
