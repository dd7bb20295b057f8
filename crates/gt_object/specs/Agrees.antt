-- A set beside a list of names.
use Rattle.std.specs.Prelude.{◌≡◌, ℕ, List}
use Rattle.std.specs.List.{list_any}
use Rattle.std.specs.Ordering.{nat_cmp, eq_by_cmp}
use Rattle.std.specs.Cmp.Lexicographic.{slice_cmp}
use Rattle.std.specs.BTreeSet.{BTreeSet, contains}

-- The set has the names of the list.
abbrev pub Agrees : BTreeSet (List ℕ) → List (List ℕ) → Type 0
Agrees set names = (q : List ℕ) → contains (slice_cmp nat_cmp) set q ≡ list_any (λ y. eq_by_cmp (slice_cmp nat_cmp) q y) names
