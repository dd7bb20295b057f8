-- The verdict by its checks.
use Rattle.std.proofs.Common.{◌≡◌, ℕ, Bool, true, cond, List, ◌++◌, map, Option, Some, None, Ok, Err, refl, sym, ap, ◌∙◌}
use Rattle.std.specs.Option.{option_or}
use Rattle.gt_model.specs.declared.refusal.Refusal.{Refusal}
use Rattle.gt_model.specs.declared.refusal.Refusal.TheVariants.{RepositoryGone}
use Rattle.gt_model.specs.Contents.{Content, has_repo}
use Rattle.gt_model.specs.Verdicts.{Staged, first_some, failed, conflict, directory, missing_value, missing_dep, verdict, added_records, needed_names, ascending}
use Rattle.gt_verify.specs.declared.needing.Needing.{Needing}
use Rattle.gt_verify.specs.Checks.{refs_failure, unless_failed, ready, missing_dep_of, names_of, all_needing, old_ones, needed_of, values_of, deps_of}
use Rattle.gt_verify.proofs.Adding.{mentions, needing-added, first_some-map, deps_of-mentions}

or_or : {X : Type 0} (a b c d : Option X) → option_or a (option_or b (option_or c d)) ≡ option_or (option_or a (option_or b c)) d
or_or None None c d = refl
or_or None (Some y) c d = refl
or_or (Some x) b c d = refl

by_failure : (c : Content) (path : List ℕ) (s : Staged) → verdict c path s ≡ unless_failed (failed c path s) (ready c path s)
by_failure c path s = by (failed c path s)
  where
    by : (o : Option Refusal) → elim o [ None ↦ Ok (ready c path s) | Some refusal ↦ Err refusal ] ≡ unless_failed o (ready c path s)
    by None = refl
    by (Some refusal) = refl

failure : (c : Content) (path : List ℕ) (s : Staged) → has_repo c path ≡ true → failed c path s ≡ option_or (refs_failure c path s s.refs) (missing_dep c path s)
failure c path s there =
    ap (λ (b : Bool). cond b (option_or (conflict c path s) (option_or (directory c path s) (option_or (missing_value c path s) (missing_dep c path s)))) (Some RepositoryGone)) there
    ∙ or_or (conflict c path s) (directory c path s) (missing_value c path s) (missing_dep c path s)

pub refused : (c : Content) (path : List ℕ) (s : Staged) (r : Refusal) → has_repo c path ≡ true → refs_failure c path s s.refs ≡ Some r → verdict c path s ≡ Err r
refused c path s r there fails =
    by_failure c path s ∙ ap (λ (o : Option Refusal). unless_failed o (ready c path s)) (failure c path s there ∙ ap (λ (o : Option Refusal). option_or o (missing_dep c path s)) fails)

pub passed : (c : Content) (path : List ℕ) (s : Staged) → has_repo c path ≡ true → refs_failure c path s s.refs ≡ None → unless_failed (missing_dep c path s) (ready c path s) ≡ verdict c path s
passed c path s there none =
    sym (by_failure c path s ∙ ap (λ (o : Option Refusal). unless_failed o (ready c path s)) (failure c path s there ∙ ap (λ (o : Option Refusal). option_or o (missing_dep c path s)) none))

-- what the added records mention, as the code has it
records_are : (c : Content) (path : List ℕ) (s : Staged) (added : List (List ℕ)) (records : List Needing) → added ≡ names_of (added_records c path s) → records ≡ all_needing s.records added → records ≡ map mentions (added_records c path s)
records_are c path s added records is made = made ∙ ap (all_needing s.records) is ∙ needing-added c path s

pub missing_is : (c : Content) (path : List ℕ) (s : Staged) (added : List (List ℕ)) (records : List Needing) → added ≡ names_of (added_records c path s) → records ≡ all_needing s.records added → first_some (missing_dep_of c path s) records ≡ missing_dep c path s
missing_is c path s added records is made =
    ap (first_some (missing_dep_of c path s)) (records_are c path s added records is made) ∙ first_some-map (missing_dep_of c path s) mentions (added_records c path s)

pub needed_is : (c : Content) (path : List ℕ) (s : Staged) (added : List (List ℕ)) (records : List Needing) → added ≡ names_of (added_records c path s) → records ≡ all_needing s.records added → needed_of c path s s.refs records ≡ needed_names c path s
needed_is c path s added records is made =
    ap (λ (ds : List (List ℕ)). ascending (old_ones c path s (values_of s.refs ++ names_of s.records ++ ds))) (ap deps_of (records_are c path s added records is made) ∙ deps_of-mentions (added_records c path s))
