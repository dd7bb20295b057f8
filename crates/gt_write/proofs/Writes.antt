-- The entry of a good commit fits, and has a spelling.
use Rattle.std.proofs.Common.{◌≡◌, ℕ, ◌<◌, ◌^◌, Bool, true, false, not, cond, ◌&&◌, List, [], ◌∷◌, length, map as map_list, find, filter, Option, Some, None, Result, Ok, Err, IsTrue, refl, sym, ap, subst, ◌∙◌}
use Rattle.std.specs.Prelude.{T}
use Rattle.std.specs.declared.cmp.Ordering.{Ordering}
use Rattle.std.specs.declared.cmp.Ordering.TheVariants.{Less, Equal, Greater}
use Rattle.std.specs.List.{list_all, AllByRecursion, IsDistinct, cons_option}
use Rattle.std.specs.List.Sorted.{IsStrictlySortedBy}
use Rattle.std.specs.Option.{option_map, option_or}
use Rattle.std.specs.Ordering.{is_lt}
use Rattle.std.specs.Cmp.Lexicographic.{nat_list_eq_equiv}
use Rattle.std.specs.FinMap as map
use Rattle.std.specs.FinMap.{entries_sorted}
use Rattle.std.specs.FinMap.Entries.{below_all, is_sorted}
use Rattle.gt_entry.specs.Fits.{Ascend, IsWritable}
use Rattle.gt_model.specs.declared.added.Added.{Added}
use Rattle.gt_model.specs.declared.change.Change.TheVariants.{Write}
use Rattle.gt_model.specs.declared.refusal.Refusal.{Refusal}
use Rattle.gt_model.specs.declared.refusal.Refusal.TheVariants.{ReferenceConflict, RepositoryGone}
use Rattle.gt_model.specs.declared.update.RefUpdate.{RefUpdate}
use Rattle.gt_model.specs.Contents.{Content, key_cmp, has_repo, value_or_zero, finds_old, is_visible, change_fits}
use Rattle.gt_model.specs.Verdicts.{Staged, Ready, same_name, first_some, ascending, by_name, added_records, conflict, directory, missing_value, missing_dep, failed, verdict}
use Rattle.gt_model.proofs.Checks.{every_added}
use Rattle.gt_stage.specs.Staging.{own_record, IsClean}
use Rattle.gt_verify.specs.Checks.{names_of, ready as ready_in}
use Rattle.gt_verify.proofs.Adding.{names-added}
use Rattle.gt_write.specs.Writing.{records_of}

-- ---- what a good verdict says

-- the repository is there, and each old value is found
pub record Agreed (c : Content) (path : List ℕ) (s : Staged) (ready : Ready) : Type 0 where
  pub there : has_repo c path ≡ true
  pub found : list_all (finds_old c path) s.refs ≡ true
  pub is : ready ≡ ready_in c path s

finds_all : (c : Content) (path : List ℕ) (refs : List RefUpdate) → first_some (λ u. cond (finds_old c path u) None (Some (ReferenceConflict u.name u.old (value_or_zero c path u.name)))) refs ≡ None → list_all (finds_old c path) refs ≡ true
finds_all c path [] none = refl
finds_all c path (u ∷ us) none = by (finds_old c path u) none (finds_all c path us)
  where
    rest : Option Refusal
    rest = first_some (λ v. cond (finds_old c path v) None (Some (ReferenceConflict v.name v.old (value_or_zero c path v.name)))) us

    by : (b : Bool) → option_or (cond b None (Some (ReferenceConflict u.name u.old (value_or_zero c path u.name)))) rest ≡ None → (rest ≡ None → list_all (finds_old c path) us ≡ true) → (b && list_all (finds_old c path) us) ≡ true
    by true none more = more none
    by false none more = absurd (cc (none))

agreed_none : (c : Content) (path : List ℕ) (s : Staged) → failed c path s ≡ None → (has_repo c path ≡ true) × (list_all (finds_old c path) s.refs ≡ true)
agreed_none c path s none = by (has_repo c path) none
  where
    checks : Option Refusal
    checks = option_or (conflict c path s) (option_or (directory c path s) (option_or (missing_value c path s) (missing_dep c path s)))

    first : (a b : Option Refusal) → option_or a b ≡ None → a ≡ None
    first None b is = refl
    first (Some r) b is = absurd (cc (is))

    by : (b : Bool) → cond b checks (Some RepositoryGone) ≡ None → (b ≡ true) × (list_all (finds_old c path) s.refs ≡ true)
    by true is = (refl, finds_all c path s.refs (first (conflict c path s) (option_or (directory c path s) (option_or (missing_value c path s) (missing_dep c path s))) is))
    by false is = absurd (cc (is))

pub agreed : (c : Content) (path : List ℕ) (s : Staged) (ready : Ready) → verdict c path s ≡ Ok ready → Agreed c path s ready
agreed c path s ready good = by (failed c path s) refl good
  where
    by : (f : Option Refusal) → failed c path s ≡ f → elim f as (λ f. Result Ready Refusal) [ Some refusal ↦ Err refusal | None ↦ Ok (ready_in c path s) ] ≡ Ok ready → Agreed c path s ready
    by None none is = let same : ready_in c path s ≡ ready = cc (is) in let parts = agreed_none c path s none in record { there = parts.0; found = parts.1; is = sym same }
    by (Some refusal) none is = absurd (cc (is))

-- ---- it fits

all_pass : {A : Type 0} (p : A → Bool) (xs : List A) → list_all p (filter p xs) ≡ true
all_pass p [] = refl
all_pass p (x ∷ xs) = by (p x) refl (all_pass p xs)
  where
    by : (b : Bool) → p x ≡ b → list_all p (filter p xs) ≡ true → list_all p (cond b (x ∷ filter p xs) (filter p xs)) ≡ true
    by true is more = ap (λ (b : Bool). b && list_all p (filter p xs)) is ∙ more
    by false is more = more

pub write_fits : (c : Content) (path : List ℕ) (s : Staged) (ready : Ready) → verdict c path s ≡ Ok ready → IsTrue (change_fits c path (Write ready.refs ready.needed (added_records c path s)))
write_fits c path s ready good =
    let a = agreed c path s ready good in
    let found : list_all (finds_old c path) ready.refs ≡ true = ap (λ (r : Ready). list_all (finds_old c path) r.refs) a.is ∙ a.found in
    let hidden : list_all (λ (x : Added). not (is_visible c path x.name)) (added_records c path s) ≡ true = all_pass (λ (x : Added). not (is_visible c path x.name)) (by_name s.records) in
    λ i. (a.there i && found i) && hidden i

-- ---- its records

-- each staged record is found under its name
own_staged : (records : List Added) → IsDistinct same_name (map_list (λ a. a.name) records) → AllByRecursion (λ a. own_record records a.name ≡ Some a.whole) records
unfolding IsDistinct
own_staged [] once = tt
own_staged (a ∷ rest) once = (ap (own_at a.name) (nat_list_eq_equiv.refl a.name), others rest once.0 (own_staged rest once.1))
  where
    own_at : List ℕ → Bool → Option (List ℕ)
    own_at name here = option_map (λ (x : Added). x.whole) (cond here (Some a) (find (λ x. same_name name x.name) rest))

    others : (xs : List Added) → AllByRecursion (λ name. same_name a.name name ≡ false) (map_list (λ x. x.name) xs) → AllByRecursion (λ x. own_record rest x.name ≡ Some x.whole) xs → AllByRecursion (λ x. own_record (a ∷ rest) x.name ≡ Some x.whole) xs
    others [] apart own = tt
    others (x ∷ xs) apart own = (ap (own_at x.name) (nat_list_eq_equiv.symm x.name a.name ∙ apart.0) ∙ own.0, others xs apart.1 own.1)

records_found : (s : Staged) (xs : List Added) → AllByRecursion (λ a. own_record s.records a.name ≡ Some a.whole) xs → records_of s (names_of xs) ≡ xs
records_found s [] own = refl
records_found s (a ∷ rest) own =
    ap (λ (o : Option (List ℕ)). cons_option (option_map (λ whole. record { name = a.name; whole = whole }) o) (records_of s (names_of rest))) own.0
    ∙ ap (λ (more : List Added). a ∷ more) (records_found s rest own.1)

pub added_is : (c : Content) (path : List ℕ) (s : Staged) (ready : Ready) → IsClean s → verdict c path s ≡ Ok ready → records_of s ready.added ≡ added_records c path s
added_is c path s ready clean good =
    ap (λ (r : Ready). records_of s r.added) (agreed c path s ready good).is
    ∙ records_found s (added_records c path s) (every_added c path s (λ (a : Added). own_record s.records a.name ≡ Some a.whole) (own_staged s.records clean.records))

-- ---- its spelling

less : (o : Ordering) → T (is_lt o) → o ≡ Less
less Less is = refl
less Equal is = absurd is
less Greater is = absurd is

both_of : (a b : Bool) → T (a && b) → T a × T b
both_of true b is = (tt, is)
both_of false b is = absurd is

rises : {X : Type 0} (k : List ℕ) (es : List (List ℕ × X)) → T (below_all key_cmp k es) → AllByRecursion (λ y. key_cmp k y ≡ Less) (map_list (λ e. e.0) es)
rises k [] below = tt
rises k (e ∷ es) below = let parts = both_of _ _ below in (less (key_cmp k e.0) parts.0, rises k es parts.1)

ascends : {X : Type 0} (es : List (List ℕ × X)) → T (is_sorted key_cmp es) → IsStrictlySortedBy key_cmp (map_list (λ e. e.0) es)
unfolding IsStrictlySortedBy
ascends [] is = tt
ascends (e ∷ es) is = let parts = both_of _ _ is in (rises e.0 es parts.0, ascends es parts.1)

ascending_ascends : (names : List (List ℕ)) → Ascend (ascending names)
ascending_ascends names = let m = map.from_entries {R = key_cmp} (map_list (λ name. (name, name)) names) in ascends (map.entries m) (entries_sorted m)

pub writable : (c : Content) (path : List ℕ) (s : Staged) (ready : Ready) → IsClean s → verdict c path s ≡ Ok ready
    → length ready.refs < 2 ^ 32 → length ready.needed < 2 ^ 32 → length (added_records c path s) < 2 ^ 32 → IsWritable ready.refs ready.needed (added_records c path s)
writable c path s ready clean good refs_few needed_few added_few =
    let is = (agreed c path s ready good).is in
    record {
      refs_few = refs_few;
      refs_once = subst (λ (r : Ready). IsDistinct same_name (map_list (λ u. u.name) r.refs)) (sym is) clean.refs;
      needed_few = needed_few;
      needed_ascend = subst (λ (r : Ready). Ascend r.needed) (sym is) (ascending_ascends _);
      added_few = added_few;
      added_ascend = subst Ascend (sym (names-added c path s)) (ascending_ascends _);
    }
