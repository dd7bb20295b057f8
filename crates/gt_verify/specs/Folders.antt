-- Names in each other's folders.
use Rattle.std.specs.Prelude.{◌≡◌, ℕ, ◌<◌, ◌≤◌, Bool, true, false, not, ◌&&◌, ◌||◌, is_some, List, length, take, filter, map, Option, Some, None, slice_index, slice_index_or, if◌then◌else◌}
use Rattle.std.specs.List.{list_any}
use Rattle.std.specs.Ordering.{is_lt, is_gt, is_le}
use Rattle.std.specs.FinMap as map_of
use Rattle.gt_model.specs.declared.update.RefUpdate.{RefUpdate}
use Rattle.gt_model.specs.Contents.{Names, key_cmp}
use Rattle.gt_model.specs.Verdicts.{same_name, target}

abbrev pub has_name : List (List ℕ) → List ℕ → Bool
has_name names q = list_any (same_name q) names

abbrev pub has_same : List (List ℕ) → List (List ℕ) → Type 0
has_same one other = (q : List ℕ) → has_name one q ≡ has_name other q

-- it isn't below the text
abbrev pub is_from : List ℕ → List ℕ → Bool
is_from text q = not (is_lt (key_cmp q text))

-- the names before the place are below the text, and no other is
pub record IsPlace (names : List (List ℕ)) (text : List ℕ) (place : ℕ) : Type 0 where
  pub before : (k : ℕ) (d : List ℕ) → k < place → k < length names → is_lt (key_cmp (slice_index_or names k d) text) ≡ true
  pub behind : (k : ℕ) (d : List ℕ) → place ≤ k → k < length names → is_lt (key_cmp (slice_index_or names k d) text) ≡ false

-- the least text that passes a test, if there is one
abbrev pub IsLeast : (List ℕ → Bool) → Option (List ℕ) → Type 0
IsLeast p None = (q : List ℕ) → p q ≡ false
IsLeast p (Some k) = (p k ≡ true) × ((q : List ℕ) → p q ≡ true → is_gt (key_cmp k q) ≡ false)

-- the name that stands before a slash at this place of a text
abbrev pub IsFolderAt : List (List ℕ) → List ℕ → ℕ → Option (List ℕ) → Type 0
IsFolderAt names text at None = slice_index text at ≡ 47 → has_name names (take at text) ≡ false
IsFolderAt names text at (Some found) = (slice_index text at ≡ 47) × (found ≡ take at text) × (has_name names (take at text) ≡ true)

abbrev pub least_of : Option (List ℕ) → Option (List ℕ) → Option (List ℕ)
least_of None other = other
least_of (Some x) None = Some x
least_of (Some x) (Some y) = if is_le (key_cmp x y) then Some x else Some y

-- the references that updates move, and those that they move to a value
abbrev pub moved_names : List RefUpdate → List (List ℕ)
moved_names refs = map (λ u. u.name) (filter (λ u. is_some u.new) refs)

abbrev pub target_names : List RefUpdate → List (List ℕ)
target_names refs = map (λ u. u.name) (filter (λ u. is_some (target u)) refs)

-- What is laid over references has the targets, and those of the references that aren't gone.
abbrev pub Lays : Names → List (List ℕ) → List (List ℕ) → Names → Type 0
Lays refs gone targets laid = (q : List ℕ) → is_some (map_of.get laid q) ≡ (has_name targets q || (is_some (map_of.get refs q) && not (has_name gone q)))
