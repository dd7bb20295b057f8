-- The checks of a commit, one update or one record at a time.
use Rattle.std.specs.Prelude.{◌≡◌, ◌⊎◌, ℕ, not, ◌++◌, List, filter, find, map, Option, Some, None, Result, Ok, Err, if◌then◌else◌}
use Rattle.std.specs.List.{slice_get, flat_map, filter_map}
use Rattle.std.specs.Option.{option_map, option_or}
use Rattle.gt_object.specs.Whole.{deps}
use Rattle.gt_model.specs.declared.added.Added.{Added}
use Rattle.gt_model.specs.declared.needer.Needer.TheVariants.{Ref, Object}
use Rattle.gt_model.specs.declared.refusal.Refusal.{Refusal}
use Rattle.gt_model.specs.declared.refusal.Refusal.TheVariants.{ReferenceConflict, DirectoryConflict, MissingObject}
use Rattle.gt_model.specs.declared.update.RefUpdate.{RefUpdate}
use Rattle.gt_model.specs.Contents.{Content, Names, and_then, value_or_zero, finds_old, is_visible, with_refs}
use Rattle.gt_model.specs.Verdicts.{Staged, Ready, first_some, target, refs_in, clash_in, is_added, is_present, ascending, added_records, needed_names as names_needed}
use Rattle.gt_stage.specs.Staging.{own_record}
use Rattle.gt_verify.specs.declared.error.VerifyError.{VerifyError}
use Rattle.gt_verify.specs.declared.error.VerifyError.TheVariants.{Memory}
use Rattle.gt_verify.specs.declared.needing.Needing.{Needing}
use Rattle.gt_verify.specs.Refusing.{refusal_of}

-- A check passes where there is no failure, and else answers it, unless memory runs out.
abbrev pub Answers : Option Refusal → Result (Unit {0}) VerifyError → Type 0
Answers failure (Ok done) = failure ≡ None
Answers failure (Err e) = (e ≡ Memory) ⊎ (failure ≡ Some (refusal_of e))

abbrev pub conflict_of : Content → List ℕ → RefUpdate → Option Refusal
conflict_of c path u = if finds_old c path u then None else Some (ReferenceConflict u.name u.old (value_or_zero c path u.name))

-- over the references as they will be
abbrev pub directory_of : Names → RefUpdate → Option Refusal
directory_of refs u = and_then (target u) (λ new. option_map (DirectoryConflict u.name) (clash_in refs u.name))

abbrev pub missing_value_of : Content → List ℕ → Staged → RefUpdate → Option Refusal
missing_value_of c path s u = and_then (target u) (λ new. if is_present c path s new then None else Some (MissingObject new (Ref u.name)))

abbrev pub missing_dep_of : Content → List ℕ → Staged → Needing → Option Refusal
missing_dep_of c path s n = option_map (λ dep. MissingObject dep (Object n.name)) (find (λ dep. not (is_present c path s dep)) n.deps)

-- ---- names

abbrev pub record_name : List Added → ℕ → Option (List ℕ)
record_name records i = option_map (λ a. a.name) (slice_get records i)

abbrev pub names_of : List Added → List (List ℕ)
names_of records = map (λ a. a.name) records

-- those of these names that aren't visible
abbrev pub unseen : Content → List ℕ → List (List ℕ) → List (List ℕ)
unseen c path names = filter (λ n. not (is_visible c path n)) names

-- what the record under a name mentions
abbrev pub needing_of : List Added → List ℕ → Option Needing
needing_of records name = option_map (λ whole. record { name = name; deps = deps whole }) (own_record records name)

abbrev pub all_needing : List Added → List (List ℕ) → List Needing
all_needing records names = filter_map (needing_of records) names

-- those of these names that aren't added
abbrev pub old_ones : Content → List ℕ → Staged → List (List ℕ) → List (List ℕ)
old_ones c path s names = filter (λ name. not (is_added c path s name)) names

abbrev pub values_of : List RefUpdate → List (List ℕ)
values_of refs = filter_map target refs

abbrev pub deps_of : List Needing → List (List ℕ)
deps_of records = flat_map (λ n. n.deps) records

abbrev pub needed_of : Content → List ℕ → Staged → List RefUpdate → List Needing → List (List ℕ)
needed_of c path s refs records = ascending (old_ones c path s (values_of refs ++ names_of s.records ++ deps_of records))

-- ---- the whole

-- the first check of the updates that fails
abbrev pub refs_failure : Content → List ℕ → Staged → List RefUpdate → Option Refusal
refs_failure c path s refs =
    option_or (first_some (conflict_of c path) refs) (option_or (first_some (directory_of (with_refs (refs_in c path) refs)) refs) (first_some (missing_value_of c path s) refs))

abbrev pub unless_failed : Option Refusal → Ready → Result Ready Refusal
unless_failed None ready = Ok ready
unless_failed (Some refusal) ready = Err refusal

abbrev pub ready : Content → List ℕ → Staged → Ready
ready c path s = record { refs = s.refs; needed = names_needed c path s; added = names_of (added_records c path s) }
