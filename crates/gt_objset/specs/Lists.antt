-- What lists of a content have.
use Rattle.std.specs.Prelude.{ℕ, filter, List, map as map_list}
use Rattle.std.specs.FinMap as map
use Rattle.gt_model.specs.Contents.{Content, own_of, pool_own, pool_of, union, is_this}

-- the names of own objects, ascending
abbrev pub own_names : Content → List ℕ → List (List ℕ)
own_names c path = map.keys (own_of (map.get c path))

-- the repositories that have this pool, ascending
abbrev pub members : Content → List ℕ → List (List ℕ)
members c pool = map_list (λ e. e.0) (filter (λ e. is_this e.1.pool pool) (map.entries c))

-- all repositories, ascending
abbrev pub all_paths : Content → List (List ℕ)
all_paths c = map.keys c

-- the names that are visible, ascending
abbrev pub visible_names : Content → List ℕ → List (List ℕ)
visible_names c path = map.keys (union (own_of (map.get c path)) (pool_own c (pool_of c path)))
