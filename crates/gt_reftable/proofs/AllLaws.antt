-- All references of all repositories, listed.
use Rattle.std.proofs.Common.{◌≡◌, ℕ, nat_eq, Bool, true, false, cond, T, List, [], ◌∷◌, ◌++◌, map, filter, Option, Some, None, Result, Ok, Err, IfOk, OnOk, refl, sym, ap, ◌∙◌, subst}
use Rattle.std.specs.List.{flat_map, cons_option, starts_with}
use Rattle.std.specs.List.Sorted.{IsStrictlySortedBy}
use Rattle.std.specs.Option.{option_map}
use Rattle.std.specs.Ordering.{eq_by_cmp}
use Rattle.std.specs.Cmp.{eq_by_cmp_equiv}
use Rattle.std.specs.Cmp.Lexicographic.{nat_list_cmp_total}
use Rattle.std.specs.FinMap as map_of
use Rattle.std.specs.FinMap.{is_sorted, find, from_entries, entries_sorted, get-entries, get-from_entries, same_map}
use Rattle.gt_model.specs.Contents.{key_cmp, Content, Names, Repo, and_then, after_all}
use Rattle.gt_model.specs.Histories.{all_refs}
use Rattle.gt_model.specs.Machine.{references}
use Rattle.gt_model.specs.declared.entry.Entry.{Entry}
use Rattle.gt_model.specs.declared.reference.RefAt.{RefAt}
use Rattle.gt_model.specs.declared.reference.RefValue.{RefValue}
use Rattle.gt_versions.proofs.Keys.{at_key, get_key, entries_of, key_cmp-IsAntisymmetric}
use Rattle.gt_slots.proofs.ListLaws.{given, sorted_given, entries_sorted_of}
use Rattle.gt_slots.proofs.SortLaws.{front_of, back_of}
use Rattle.gt_reftable.specs.Tracks.{Track, refs_of}
use Rattle.gt_reftable.specs.Table.{Table, track_refs, ref_at, with_path, all_in, all_at, IsSlotUpTo, EachUpTo}
use Rattle.gt_reftable.specs.Agree.{Agrees}
use Rattle.gt_reftable.proofs.RefsLaws.{equal_by, none_below, find-given}
use Rattle.gt_reftable.proofs.ReadLaws.{no_entries}
use Rattle.gt_reftable.proofs.AgreeLaws.{agrees_front}

-- ---- a repository

with_path-all : (path : List ℕ) (refs : Names) → map (ref_at path) (references refs []) ≡ with_path path refs
with_path-all path refs = by (map_of.entries refs)
  where
    by : (es : List (List ℕ × List ℕ)) → map (ref_at path) (map (λ e. record { name = e.0; value = e.1 }) (filter (λ (e : List ℕ × List ℕ). starts_with nat_eq e.0 []) es)) ≡ map (λ r. record { path = path; name = r.0; value = r.1 }) es
    by [] = refl
    by (e ∷ es) = ap (λ l. record { path = path; name = e.0; value = e.1 } ∷ l) (by es)

pub repo_added : {A E : Type 0} (res : Result A E) (out new : List RefAt) (path : List ℕ) (refs : Names) (list : List RefValue) → list ≡ references refs [] → OnOk res (new ≡ out ++ map (ref_at path) list) → OnOk res (new ≡ out ++ with_path path refs)
repo_added (Err e) out new path refs list is h = tt
repo_added (Ok x) out new path refs list is h = h ∙ ap (λ l. out ++ map (ref_at path) l) is ∙ ap (λ l. out ++ l) (with_path-all path refs)

-- ---- lists that differ in repositories without references

-- none where there is no reference
abbrev some : List (List ℕ × List ℕ) → Option (List (List ℕ × List ℕ))
some [] = None
some (r ∷ rs) = Some (r ∷ rs)

abbrev placed : List ℕ × List (List ℕ × List ℕ) → List RefAt
placed e = map (λ r. record { path = e.0; name = r.0; value = r.1 }) e.1

module _ {X : Type 0} (f : X → List (List ℕ × List ℕ)) where
  flat_given : (es : List (List ℕ × X)) → flat_map placed (given (λ x. some (f x)) es) ≡ flat_map (λ e. placed (e.0, f e.1)) es
  flat_given [] = refl
  flat_given (e ∷ es) = by (f e.1) (flat_given es)
    where
      by : (l : List (List ℕ × List ℕ)) → flat_map placed (given (λ x. some (f x)) es) ≡ flat_map (λ e. placed (e.0, f e.1)) es
          → flat_map placed (cons_option (option_map (λ v. (e.0, v)) (some l)) (given (λ x. some (f x)) es)) ≡ placed (e.0, l) ++ flat_map (λ e. placed (e.0, f e.1)) es
      by [] more = more
      by (r ∷ rs) more = ap (λ l. placed (e.0, r ∷ rs) ++ l) more

same_sorted : {X : Type 0} (es fs : List (List ℕ × X)) → T (is_sorted key_cmp es) → T (is_sorted key_cmp fs) → ((q : List ℕ) → find key_cmp q es ≡ find key_cmp q fs) → es ≡ fs
same_sorted es fs s t is =
    sym (entries_sorted_of es s)
    ∙ ap (λ m. map_of.entries m) (same_map nat_list_cmp_total key_cmp-IsAntisymmetric (from_entries es) (from_entries fs) (λ q. get-from_entries nat_list_cmp_total es q ∙ is q ∙ sym (get-from_entries nat_list_cmp_total fs q)))
    ∙ entries_sorted_of fs t

same_all : {X Y : Type 0} (f : X → List (List ℕ × List ℕ)) (g : Y → List (List ℕ × List ℕ)) (es : List (List ℕ × X)) (fs : List (List ℕ × Y)) → T (is_sorted key_cmp es) → T (is_sorted key_cmp fs)
    → ((q : List ℕ) → and_then (find key_cmp q es) (λ x. some (f x)) ≡ and_then (find key_cmp q fs) (λ y. some (g y))) → flat_map (λ e. placed (e.0, f e.1)) es ≡ flat_map (λ e. placed (e.0, g e.1)) fs
same_all f g es fs s t is =
    sym (flat_given f es)
    ∙ ap (flat_map placed) (same_sorted (given (λ x. some (f x)) es) (given (λ y. some (g y)) fs) (sorted_given (λ x. some (f x)) es s) (sorted_given (λ y. some (g y)) fs t)
    (λ q. find-given (λ x. some (f x)) es s q ∙ is q ∙ sym (find-given (λ y. some (g y)) fs t q)))
    ∙ flat_given g fs

-- ---- the table at the front, and the content

abbrev shown : Names → Option (List (List ℕ × List ℕ))
shown refs = some (map_of.entries refs)

none_shown : None ≡ shown map_of.empty
none_shown = sym (ap some no_entries)

of_track : (p : ℕ) (s : Option Track) → and_then s (λ t. shown (refs_of t p)) ≡ shown (track_refs s p)
of_track p None = none_shown
of_track p (Some t) = refl

of_repo : (o : Option Repo) → and_then o (λ r. shown r.refs) ≡ shown (elim o [ None ↦ map_of.empty | Some r ↦ r.refs ])
of_repo None = none_shown
of_repo (Some r) = refl

pub all_agree : (t : Table) (base : Content) (log : List Entry) → Agrees t base log → all_at t t.front ≡ all_refs (after_all base log)
all_agree t base log h = same_all (λ (s : Track). map_of.entries (refs_of s t.front)) (λ (r : Repo). map_of.entries r.refs) (map_of.entries t.repos) (map_of.entries c) (entries_sorted t.repos) (entries_sorted c) (λ q.
    ap (λ s. and_then s (λ s. shown (refs_of s t.front))) (sym (get-entries t.repos q))
    ∙ of_track t.front (map_of.get t.repos q)
    ∙ ap shown (agrees_front t base log h q)
    ∙ sym (of_repo (map_of.get c q))
    ∙ ap (λ o. and_then o (λ (r : Repo). shown r.refs)) (get-entries c q))
  where
    c : Content
    c = after_all base log

-- ---- from the tree to the table

each_up : (q : ℕ) (es : List (List ℕ × Track)) → T (is_sorted key_cmp es) → ((path : List ℕ) → IsSlotUpTo q (at_key es path)) → EachUpTo q es
each_up q [] s h = tt
each_up q (e ∷ es) s h = (
  subst P (ap (λ b. cond b (Some e.1) (at_key es e.0)) ((eq_by_cmp_equiv nat_list_cmp_total).refl e.0)) (h e.0),
  each_up q es (back_of _ _ s) (λ path. by path (eq_by_cmp key_cmp path e.0) refl),
)
  where
    P : Option Track → Type 0
    P o = IsSlotUpTo q o

    by : (path : List ℕ) (b : Bool) → eq_by_cmp key_cmp path e.0 ≡ b → IsSlotUpTo q (at_key es path)
    by path true t =
        let none = sym (get_key es path) ∙ get-from_entries nat_list_cmp_total es path ∙ none_below path e.0 es (equal_by (key_cmp path e.0) t) (front_of _ _ s) in
        subst P (sym none) tt
    by path false t = subst P (ap (λ b. cond b (Some e.1) (at_key es path)) t) (h path)

pub sorted_of : (es : List (List ℕ × Track)) → IsStrictlySortedBy key_cmp (map (λ (e : List ℕ × Track). e.0) es) → T (is_sorted key_cmp es)
sorted_of es h = let P : List (List ℕ × Track) → Type 0 = λ l. T (is_sorted key_cmp l) in subst P (entries_of es h) (entries_sorted (from_entries es))

pub each_in_tree : (q : ℕ) (es fs : List (List ℕ × Track)) → fs ≡ es → IsStrictlySortedBy key_cmp (map (λ (e : List ℕ × Track). e.0) es) → ((path : List ℕ) → IsSlotUpTo q (at_key es path)) → EachUpTo q fs
each_in_tree q es fs is s h = let P : List (List ℕ × Track) → Type 0 = λ l. EachUpTo q l in subst P (sym is) (each_up q es (sorted_of es s) h)

pub all_of_tree : {E : Type 0} (res : Result (List RefAt) E) (floor front : ℕ) (es : List (List ℕ × Track)) → IsStrictlySortedBy key_cmp (map (λ (e : List ℕ × Track). e.0) es) → IfOk res (λ l. l ≡ all_in front es)
    → IfOk res (λ l. l ≡ all_at (record { floor = floor; front = front; repos = from_entries es }) front)
all_of_tree (Err e) floor front es s h = tt
all_of_tree (Ok l) floor front es s h = h ∙ ap (all_in front) (sym (entries_of es s))
