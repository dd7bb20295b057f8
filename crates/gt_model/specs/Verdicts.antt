-- What a commit answers: what it does, or the first check that fails.
use Rattle.std.specs.Prelude.{ℕ, Bool, not, ◌&&◌, ◌||◌, nat_eq, List, [], ◌∷◌, ◌++◌, filter, find, map as map_list, Option, Some, None, Result, Ok, Err, codes, if◌then◌else◌}
use Rattle.std.specs.List.{list_any, starts_with, flat_map, filter_map}
use Rattle.std.specs.Option.{option_map, option_or}
use Rattle.std.specs.Cmp.Lexicographic.{pointwise}
use Rattle.std.specs.FinMap as map
use Rattle.gt_object.specs.Whole.{deps}
use Rattle.gt_model.specs.declared.added.Added.{Added}
use Rattle.gt_model.specs.declared.needer.Needer.TheVariants.{Ref, Object}
use Rattle.gt_model.specs.declared.refusal.Refusal.{Refusal}
use Rattle.gt_model.specs.declared.refusal.Refusal.TheVariants.{RepositoryGone, ReferenceConflict, DirectoryConflict, MissingObject}
use Rattle.gt_model.specs.declared.update.RefUpdate.{RefUpdate}
use Rattle.gt_model.specs.Contents.{key_cmp, is_zero, Content, Names, has_repo, and_then, value_or_zero, finds_old, is_visible, with_refs}

-- what is staged: updates and checks in order of first staging, and records in order of first putting
pub record Staged : Type 0 where
  pub refs : List RefUpdate
  pub records : List Added

-- what a good commit does: its updates and checks, the names that it relies on, and the names that it adds, both ascending
pub record Ready : Type 0 where
  pub refs : List RefUpdate
  pub needed : List (List ℕ)
  pub added : List (List ℕ)

abbrev pub same_name : List ℕ → List ℕ → Bool
same_name = pointwise nat_eq

-- ascending, each once
abbrev pub ascending : List (List ℕ) → List (List ℕ)
ascending names = map.keys (map.from_entries {R = key_cmp} (map_list (λ name. (name, name)) names))

-- the first answer that there is
abbrev pub first_some : {A B : Type 0} → (A → Option B) → List A → Option B
first_some f [] = None
first_some f (x ∷ xs) = option_or (f x) (first_some f xs)

-- what an update moves its reference to; none for a deletion and for a check
abbrev pub target : RefUpdate → Option (List ℕ)
target u = and_then u.new (λ new. if is_zero new then None else Some new)

-- ---- names in each other's folders

-- the longer name stands in the folder of the shorter one
abbrev pub is_under : List ℕ → List ℕ → Bool
is_under longer shorter = starts_with nat_eq longer (shorter ++ codes "/")

abbrev pub clashes : List ℕ → List ℕ → Bool
clashes one other = is_under one other || is_under other one

-- the least of these references that clashes with a name
abbrev pub clash_in : Names → List ℕ → Option (List ℕ)
clash_in refs name = find (clashes name) (map.keys refs)

abbrev pub refs_in : Content → List ℕ → Names
refs_in c path = elim (map.get c path) [ None ↦ map.empty | Some r ↦ r.refs ]

-- the least reference of a repository that clashes with a name and isn't gone
abbrev pub clash : Content → List ℕ → List ℕ → List (List ℕ) → Option (List ℕ)
clash c path name gone = find (λ other. clashes name other && not (list_any (same_name other) gone)) (map.keys (refs_in c path))

-- ---- the objects of a commit

abbrev pub is_staged : Staged → List ℕ → Bool
is_staged s name = list_any (λ a. same_name a.name name) s.records

-- A staged record is added unless its name is visible.
abbrev pub is_added : Content → List ℕ → Staged → List ℕ → Bool
is_added c path s name = is_staged s name && not (is_visible c path name)

-- whether an object will be there
abbrev pub is_present : Content → List ℕ → Staged → List ℕ → Bool
is_present c path s name = is_visible c path name || is_staged s name

-- the staged records in order of their names
abbrev pub by_name : List Added → List Added
by_name records = map.values (map.from_entries {R = key_cmp} (map_list (λ a. (a.name, a)) records))

-- the records that are added, ascending by name
abbrev pub added_records : Content → List ℕ → Staged → List Added
added_records c path s = filter (λ a. not (is_visible c path a.name)) (by_name s.records)

-- the names that it relies on: new values, names of staged records, and what added records mention, without what it adds
abbrev pub needed_names : Content → List ℕ → Staged → List (List ℕ)
needed_names c path s =
    ascending (filter (λ name. not (is_added c path s name))
    (filter_map target s.refs ++ map_list (λ a. a.name) s.records ++ flat_map (λ a. deps a.whole) (added_records c path s)))

-- ---- the checks

-- the first update or check that doesn't find its old value
abbrev pub conflict : Content → List ℕ → Staged → Option Refusal
conflict c path s =
    first_some (λ u. if finds_old c path u then None else Some (ReferenceConflict u.name u.old (value_or_zero c path u.name))) s.refs

-- the first update to a value whose name clashes with a reference, once all updates are laid over the references
abbrev pub directory : Content → List ℕ → Staged → Option Refusal
directory c path s =
    first_some (λ u. and_then (target u) (λ new. option_map (DirectoryConflict u.name) (clash_in (with_refs (refs_in c path) s.refs) u.name))) s.refs

-- the first new value that won't be there
abbrev pub missing_value : Content → List ℕ → Staged → Option Refusal
missing_value c path s =
    first_some (λ u. and_then (target u) (λ new. if is_present c path s new then None else Some (MissingObject new (Ref u.name)))) s.refs

-- the first object that an added record mentions and that won't be there
abbrev pub missing_dep : Content → List ℕ → Staged → Option Refusal
missing_dep c path s =
    first_some (λ a. option_map (λ dep. MissingObject dep (Object a.name)) (find (λ dep. not (is_present c path s dep)) (deps a.whole))) (added_records c path s)

-- the first check that fails
abbrev pub failed : Content → List ℕ → Staged → Option Refusal
failed c path s =
    if has_repo c path then option_or (conflict c path s) (option_or (directory c path s) (option_or (missing_value c path s) (missing_dep c path s))) else Some RepositoryGone

-- what the commit comes to over a content
abbrev pub verdict : Content → List ℕ → Staged → Result Ready Refusal
verdict c path s = elim (failed c path s) [
  | Some refusal ↦ Err refusal
  | None ↦ Ok (record { refs = s.refs; needed = needed_names c path s; added = map_list (λ a. a.name) (added_records c path s) })
]
