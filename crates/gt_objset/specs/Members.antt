-- For each pool the repositories that were given it since the floor.
use Rattle.std.specs.Prelude.{◌≡◌, ℕ, Bool, true, false, List, Option, Some, None}
use Rattle.std.specs.BTreeSet as set
use Rattle.std.specs.BTreeSet.{BTreeSet}
use Rattle.gt_model.specs.Contents.{key_cmp}

-- the set of each pool, where it has one
abbrev pub Sets : Type 0
Sets = List ℕ → Option (BTreeSet (List ℕ))

abbrev pub has_path : Option (BTreeSet (List ℕ)) → List ℕ → Bool
has_path None path = false
has_path (Some paths) path = set.contains key_cmp paths path

-- whether a repository is in the set of a pool
abbrev pub is_noted : Sets → List ℕ → List ℕ → Bool
is_noted sets pool path = has_path (sets pool) path

-- the same of what a repository is given, where that is a pool
abbrev pub notes : Sets → List ℕ → Option (Option (List ℕ)) → Bool
notes sets path None = true
notes sets path (Some None) = true
notes sets path (Some (Some pool)) = is_noted sets pool path

-- Whoever was in a set stays in it.
abbrev pub NotesMore : Sets → Sets → Type 0
NotesMore old new = (pool path : List ℕ) → is_noted old pool path ≡ true → is_noted new pool path ≡ true
