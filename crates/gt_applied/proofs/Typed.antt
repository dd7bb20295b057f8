-- What the types of entries say of the records and values that these entries come to.
use Rattle.std.proofs.Common.{◌≡◌, ℕ, ◌<◌, ◌^◌, Bool, true, false, T, List, [], ◌∷◌, ◌++◌, length, fold, flat_map, Option, Some, None, refl, sym, ◌∙◌, subst, arith, map as map_list}
use Rattle.std.specs.Prelude.{IfSome}
use Rattle.std.proofs.lemmas.List.{nil_from_length}
use Rattle.std.proofs.lemmas.List.Elements.{recursion_from_All}
use Rattle.std.specs.List.{AllByRecursion}
use Rattle.std.specs.Ordering.{is_lt}
use Rattle.std.specs.declared.cmp.Ordering.{Ordering}
use Rattle.std.specs.declared.cmp.Ordering.TheVariants.{Less, Equal, Greater}
use Rattle.std.specs.Cmp.Lexicographic.{nat_list_cmp_total}
use Rattle.std.specs.FinMap as map
use Rattle.std.specs.FinMap.{FinMap, put, is_sorted, entries-insert, entries_sorted, len-empty, len-entries}
use Rattle.std.specs.FinMap.Entries.{below_all, by_order}
use Rattle.gt_entry.specs.Fits.{IsName, IsUpdate, IsAdded, IsChange, IsEntry}
use Rattle.gt_object.specs.Whole.{why_not}
use Rattle.gt_model.specs.Contents.{key_cmp, Names}
use Rattle.gt_model.specs.declared.added.Added.{Added}
use Rattle.gt_model.specs.declared.change.Change.{Change}
use Rattle.gt_model.specs.declared.change.Change.TheVariants.{Create, Delete, Link, Write, Repack, Prune, PackRefs, Unlink}
use Rattle.gt_model.specs.declared.entry.Entry.{Entry}
use Rattle.gt_model.specs.declared.update.RefUpdate.{RefUpdate}
use Rattle.gt_pack.specs.Spelling.{Packed, ArePacked, IsPack}
use Rattle.gt_apply.specs.Plan.{added_by, updates_by, records_of, values_of, with_update, to_added}
use Rattle.gt_apply.proofs.DraftLaws.{length-map}
use Rattle.gt_applied.specs.Applied.{to_packed}
use Rattle.gt_applied.proofs.References.{both}

-- ---- entries of maps

-- Keys have P, and values Q.
abbrev pub AllOf : {X : Type 0} → (List ℕ → Type 0) → (X → Type 0) → List (List ℕ × X) → Type 0
AllOf P Q es = AllByRecursion (λ e. P e.0 × Q e.1) es

module _ {X : Type 0} (P : List ℕ → Type 0) (Q : X → Type 0) where
  all_put : (k : List ℕ) (v : X) → P k → Q v → (es : List (List ℕ × X)) → AllOf P Q es → AllOf P Q (put key_cmp k v es)
  all_put k v p q [] h = ((p, q), tt)
  all_put k v p q (e ∷ es) h = by (key_cmp k e.0) (all_put k v p q es h.1)
    where
      by : (o : Ordering) → AllOf P Q (put key_cmp k v es) → AllOf P Q (by_order o ((k, v) ∷ e ∷ es) ((e.0, v) ∷ es) (e ∷ put key_cmp k v es))
      by Less rest = ((p, q), h)
      by Equal rest = ((h.0.0, q), h.1)
      by Greater rest = (h.0, rest)

  pub all_insert : (m : FinMap key_cmp X) (k : List ℕ) (v : X) → P k → Q v → AllOf P Q (map.entries m) → AllOf P Q (map.entries (map.insert m k v))
  all_insert m k v p q h = subst (AllOf P Q) (sym (entries-insert nat_list_cmp_total m k v)) (all_put k v p q (map.entries m) h)

pub no_entries : (X : Type 0) → map.entries (map.empty {X = X} {R = key_cmp}) ≡ []
no_entries X = nil_from_length (map.entries (map.empty {X = X} {R = key_cmp})) (sym (len-entries (map.empty {X = X} {R = key_cmp})) ∙ len-empty key_cmp X)

-- ---- records

pub all_append : {A : Type 0} (P : A → Type 0) (xs ys : List A) → AllByRecursion P xs → AllByRecursion P ys → AllByRecursion P (xs ++ ys)
all_append P [] ys h k = k
all_append P (x ∷ xs) ys h k = (h.0, all_append P xs ys h.1 k)

abbrev pub IsGood : List ℕ → Type 0
IsGood whole = why_not whole ≡ None

records_by : (added : List Added) (m : Names) → AllByRecursion IsAdded added → AllOf IsName IsGood (map.entries m) → AllOf IsName IsGood (map.entries (fold (λ m a. map.insert m a.name a.whole) m added))
records_by [] m typed h = h
records_by (a ∷ added) m typed h = records_by added (map.insert m a.name a.whole) typed.1 (all_insert IsName IsGood m a.name a.whole typed.0.name typed.0.whole h)

change_records : (change : Change) → IsChange change → AllByRecursion IsAdded (added_by change)
change_records (Create pool) is = tt
change_records Delete is = tt
change_records (Link pool) is = tt
change_records (Write refs needed added) is = recursion_from_All IsAdded added is.added
change_records (Repack file dropped) is = tt
change_records (Prune file dropped) is = tt
change_records (PackRefs file) is = tt
change_records (Unlink file) is = tt

all_records : (own : List Entry) → AllByRecursion IsEntry own → AllByRecursion IsAdded (flat_map (λ e. added_by e.change) own)
all_records [] typed = tt
all_records (e ∷ own) typed = all_append IsAdded (added_by e.change) (flat_map (λ e. added_by e.change) own) (change_records e.change typed.0.change) (all_records own typed.1)

records_typed : (own : List Entry) → AllByRecursion IsEntry own → AllOf IsName IsGood (map.entries (records_of own))
records_typed own typed = records_by (flat_map (λ e. added_by e.change) own) map.empty (all_records own typed) (subst (AllOf IsName IsGood) (sym (no_entries (List ℕ))) tt)

true_is : (b : Bool) → T b → b ≡ true
true_is true h = refl
true_is false h = absurd h

abbrev packed : List (List ℕ × List ℕ) → List Packed
packed es = map_list to_packed (map_list to_added es)

packed_above : (k : List ℕ) (es : List (List ℕ × List ℕ)) → T (below_all key_cmp k es) → T (is_sorted key_cmp es) → AllOf IsName IsGood es → ArePacked (Some k) (packed es)
packed_above k [] low sorted good = tt
packed_above k (e ∷ es) low sorted good =
    let l = both (is_lt (key_cmp k e.0)) (below_all key_cmp k es) low in
    let s = both (below_all key_cmp e.0 es) (is_sorted key_cmp es) sorted in
    (record { name = good.0.0; rises = true_is (is_lt (key_cmp k e.0)) l.0; good = good.0.1 }, packed_above e.0 es s.0 s.1 good.1)

are_packed : (es : List (List ℕ × List ℕ)) → T (is_sorted key_cmp es) → AllOf IsName IsGood es → ArePacked None (packed es)
are_packed [] sorted good = tt
are_packed (e ∷ es) sorted good =
    let s = both (below_all key_cmp e.0 es) (is_sorted key_cmp es) sorted in
    (record { name = good.0.0; rises = refl; good = good.0.1 }, packed_above e.0 es s.0 s.1 good.1)

-- The records that entries add are a pack's where their count fits.
pub records_packed : (own : List Entry) → AllByRecursion IsEntry own → length (map_list to_added (map.entries (records_of own))) < 2 ^ 32 → IsPack (map_list to_packed (map_list to_added (map.entries (records_of own))))
records_packed own typed few =
    let records : List Added = map_list to_added (map.entries (records_of own)) in
    let same : length (map_list to_packed records) ≡ length records = length-map to_packed records in
    (omega (arith, same, few), are_packed (map.entries (records_of own)) (entries_sorted (records_of own)) (records_typed own typed))

-- ---- values

abbrev pub Anything : List ℕ → Type 0
Anything k = Unit {0}

values_by : (us : List RefUpdate) (m : Names) → AllByRecursion IsUpdate us → AllOf Anything IsName (map.entries m) → AllOf Anything IsName (map.entries (fold with_update m us))
values_by [] m typed h = h
values_by (u ∷ us) m typed h = values_by us (with_update m u) typed.1 (by u.new typed.0.new)
  where
    by : (new : Option (List ℕ)) → IfSome new IsName → AllOf Anything IsName (map.entries (with_update m (record u { new = new })))
    by None is = h
    by (Some value) is = all_insert Anything IsName m u.name value tt is h

change_updates : (change : Change) → IsChange change → AllByRecursion IsUpdate (updates_by change)
change_updates (Create pool) is = tt
change_updates Delete is = tt
change_updates (Link pool) is = tt
change_updates (Write refs needed added) is = recursion_from_All IsUpdate refs is.refs
change_updates (Repack file dropped) is = tt
change_updates (Prune file dropped) is = tt
change_updates (PackRefs file) is = tt
change_updates (Unlink file) is = tt

all_updates : (own : List Entry) → AllByRecursion IsEntry own → AllByRecursion IsUpdate (flat_map (λ e. updates_by e.change) own)
all_updates [] typed = tt
all_updates (e ∷ own) typed = all_append IsUpdate (updates_by e.change) (flat_map (λ e. updates_by e.change) own) (change_updates e.change typed.0.change) (all_updates own typed.1)

-- The values that entries write are names.
pub values_typed : (own : List Entry) → AllByRecursion IsEntry own → AllOf Anything IsName (map.entries (values_of own))
values_typed own typed = values_by (flat_map (λ e. updates_by e.change) own) map.empty (all_updates own typed) (subst (AllOf Anything IsName) (sym (no_entries (List ℕ))) tt)
