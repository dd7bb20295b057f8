-- How marks are gathered: pairs of a repository and a name, each once, in the order in which they are met.
use Rattle.std.specs.Prelude.{ℕ, Bool, not, List, [], ◌∷◌, ◌++◌, fold, filter, map as map_list, Option, Some, None, if◌then◌else◌}
use Rattle.std.specs.List.{list_any}
use Rattle.std.specs.FinMap as map
use Rattle.gt_object.specs.Whole.{deps}
use Rattle.gt_model.specs.Contents.{Content, pool_of, found, is_this}
use Rattle.gt_model.specs.Verdicts.{same_name, refs_in}
use Rattle.gt_model.specs.Jobs.{owned, same_pair}

abbrev pub Pairs : Type 0
Pairs = List (List ℕ × List ℕ)

-- one pair more, where it isn't there
abbrev pub with_pair : Pairs → List ℕ × List ℕ → Pairs
with_pair pairs pair = if list_any (same_pair pair) pairs then pairs else pairs ++ pair ∷ []

-- names of one repository more
abbrev pub with_names : List ℕ → Pairs → List (List ℕ) → Pairs
with_names at pairs names = fold (λ p name. with_pair p (at, name)) pairs names

-- what the record mentions that is seen under a name; nothing where none is seen
abbrev pub mentioned_in : Option (List ℕ) → List (List ℕ)
mentioned_in None = []
mentioned_in (Some whole) = deps whole

abbrev pub mentioned : Content → List ℕ → List ℕ → List (List ℕ)
mentioned c at name = mentioned_in (found c at name)

-- what the references of a repository name
abbrev pub referred : Content → List ℕ → List (List ℕ)
referred c at = map_list (λ r. r.1) (map.entries (refs_in c at))

abbrev pub own_names : Content → List ℕ → List (List ℕ)
own_names c at = map_list (λ o. o.0) (owned c at)

-- the names with which the marks of the first repository begin in the second
abbrev pub root_names : Content → List ℕ → List ℕ → List (List ℕ)
root_names c path at =
    if is_this (pool_of c at) path then referred c at ++ own_names c at else if same_name at path then referred c at else []

-- with those of these repositories
abbrev pub with_roots : Content → List ℕ → Pairs → List (List ℕ) → Pairs
with_roots c path pairs paths = fold (λ p at. with_names at p (root_names c path at)) pairs paths

-- with what the record of the pair at this index mentions
abbrev pub followed : Content → Pairs → Option (List ℕ × List ℕ) → Pairs
followed c pairs None = pairs
followed c pairs (Some pair) = with_names pair.0 pairs (mentioned c pair.0 pair.1)

-- a name of some pair
abbrev pub is_kept : Pairs → List ℕ → Bool
is_kept pairs name = list_any (λ pair. same_name name pair.1) pairs

-- those of these names that no pair has
abbrev pub unkept : Pairs → List (List ℕ) → List (List ℕ)
unkept pairs names = filter (λ name. not (is_kept pairs name)) names

-- those that some pair has
abbrev pub kept : Pairs → List (List ℕ) → List (List ℕ)
kept pairs names = filter (is_kept pairs) names
