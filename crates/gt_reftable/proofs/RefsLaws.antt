-- The references of a repository at a position, one by one.
use Rattle.std.proofs.Common.{◌≡◌, ℕ, ◌+◌, Bool, true, false, cond, T, List, [], ◌∷◌, Option, Some, None, refl, sym, ap, ◌∙◌}
use Rattle.std.specs.Option.{option_map}
use Rattle.std.specs.List.{cons_option}
use Rattle.std.specs.Ordering.{eq_by_cmp, is_lt, is_eq}
use Rattle.std.specs.Cmp.Lexicographic.{nat_list_cmp_total}
use Rattle.std.specs.declared.cmp.Ordering.{Ordering}
use Rattle.std.specs.declared.cmp.Ordering.TheVariants.{Less, Equal, Greater}
use Rattle.std.specs.FinMap as map
use Rattle.std.specs.FinMap.{from_entries, find, is_sorted, entries_sorted, get-entries, get-from_entries, get-empty, get-insert, get-remove, same_map}
use Rattle.std.specs.FinMap.Entries.{below_all}
use Rattle.gt_model.specs.Contents.{key_cmp, Names, and_then, is_zero, with_value, with_refs}
use Rattle.gt_model.specs.declared.update.RefUpdate.{RefUpdate}
use Rattle.gt_model.specs.declared.entry.Entry.{Entry}
use Rattle.gt_model.specs.declared.change.Change.{Change}
use Rattle.gt_model.specs.declared.change.Change.TheVariants.{Create, Delete, Link, Write, Repack, Prune, PackRefs, Unlink}
use Rattle.gt_versions.specs.Versions.{last_at}
use Rattle.gt_versions.specs.Lives.{value_since}
use Rattle.gt_versions.proofs.Keys.{at_key, get_key, key_cmp-IsAntisymmetric}
use Rattle.gt_slots.specs.Present.{present, refs_since}
use Rattle.gt_slots.specs.Slots.{items_of}
use Rattle.gt_slots.proofs.ListLaws.{given}
use Rattle.gt_slots.proofs.SortLaws.{front_of, back_of}
use Rattle.gt_reftable.specs.Tracks.{Track, start, refs_of, IsInStep, step_new, step_updates}
use Rattle.gt_reftable.specs.Table.{track_refs, track_value, refs_at, refs_change, refs_after, step_here, step_entry, Adds, IsSameTable, IsEmpty, Steps, Same}

pub same_refs : (m n : Names) → ((x : List ℕ) → map.get m x ≡ map.get n x) → m ≡ n
same_refs m n is = same_map nat_list_cmp_total key_cmp-IsAntisymmetric m n is

-- ---- what is present

pub equal_by : (o : Ordering) → is_eq o ≡ true → o ≡ Equal
equal_by Less e = let no : ⊥ = cc in absurd no
equal_by Equal e = refl
equal_by Greater e = let no : ⊥ = cc in absurd no

apart : (o : Ordering) → T (is_lt o) → is_eq o ≡ false
apart Less h = refl
apart Equal h = absurd h
apart Greater h = refl

module _ {X : Type 0} where
  -- what is below all has no tie among them
  pub none_below : (q k : List ℕ) (es : List (List ℕ × X)) → key_cmp q k ≡ Equal → T (below_all key_cmp k es) → find key_cmp q es ≡ None
  none_below q k [] t h = refl
  none_below q k (e ∷ es) t h =
      let off : eq_by_cmp key_cmp q e.0 ≡ false = ap is_eq (nat_list_cmp_total.congr q k e.0 t) ∙ apart (key_cmp k e.0) (front_of _ _ h) in
      ap (λ b. cond b (Some e.1) (find key_cmp q es)) off ∙ none_below q k es t (back_of _ _ h)

module _ {X Y : Type 0} (g : X → Option Y) where
  pub find-given : (es : List (List ℕ × X)) → T (is_sorted key_cmp es) → (q : List ℕ) → find key_cmp q (given g es) ≡ and_then (find key_cmp q es) g
  find-given [] h q = refl
  find-given (e ∷ es) h q = by_test (find-given es (back_of _ _ h) q) (eq_by_cmp key_cmp q e.0) refl (g e.1) refl
    where
      cons : Option Y → List (List ℕ × Y)
      cons o = cons_option (option_map (λ v. (e.0, v)) o) (given g es)

      by_test : find key_cmp q (given g es) ≡ and_then (find key_cmp q es) g → (b : Bool) → eq_by_cmp key_cmp q e.0 ≡ b → (v : Option Y) → g e.1 ≡ v → find key_cmp q (cons (g e.1)) ≡ and_then (cond b (Some e.1) (find key_cmp q es)) g
      by_test rest true t (Some w) s = ap (λ o. find key_cmp q (cons o)) s ∙ ap (λ b. cond b (Some w) (find key_cmp q (given g es))) t ∙ sym s
      by_test rest true t None s = ap (λ o. find key_cmp q (cons o)) s ∙ rest ∙ ap (λ o. and_then o g) (none_below q e.0 es (equal_by (key_cmp q e.0) t) (front_of _ _ h)) ∙ sym s
      by_test rest false t (Some w) s = ap (λ o. find key_cmp q (cons o)) s ∙ ap (λ b. cond b (Some w) (find key_cmp q (given g es))) t ∙ rest
      by_test rest false t None s = ap (λ o. find key_cmp q (cons o)) s ∙ rest

module _ (c p : ℕ) where
  abbrev value_of : List (ℕ × Option (List ℕ)) × ℕ → Option (List ℕ)
  value_of s = value_since c (last_at s.0 p None)

  of_slot : (s : Option (List (ℕ × Option (List ℕ)) × ℕ)) → and_then s value_of ≡ value_since c (last_at (items_of s) p None)
  of_slot None = refl
  of_slot (Some s) = refl

  pub get-refs_since : (m : map.FinMap key_cmp (List (ℕ × Option (List ℕ)) × ℕ)) (x : List ℕ) → map.get (refs_since c p m) x ≡ value_since c (last_at (items_of (map.get m x)) p None)
  get-refs_since m x =
      get-from_entries nat_list_cmp_total (present c p (map.entries m)) x
      ∙ find-given value_of (map.entries m) (entries_sorted m) x
      ∙ of_slot (find key_cmp x (map.entries m))
      ∙ ap (λ s. value_since c (last_at (items_of s) p None)) (sym (get-entries m x))

pub get-track_refs : (s : Option Track) (p : ℕ) (x : List ℕ) → map.get (track_refs s p) x ≡ track_value s p x
get-track_refs None p x = get-empty key_cmp x
get-track_refs (Some t) p x = get-refs_since (start t p) p t.refs x

-- the newest references are those that are apart
pub newest_refs : (q : ℕ) (t : Track) → IsInStep q t → refs_since 0 q t.current ≡ refs_of t q
newest_refs q t h = same_refs _ _ (λ x. get-refs_since 0 q t.current x ∙ h.newest x ∙ sym (get-refs_since (start t q) q t.refs x))

pub no_refs : (p : ℕ) → refs_since 0 p map.empty ≡ map.empty
no_refs p = same_refs _ _ (λ x. get-refs_since 0 p map.empty x ∙ ap (λ s. value_since 0 (last_at (items_of s) p None)) (get-empty key_cmp x) ∙ sym (get-empty key_cmp x))

-- ---- what an entry does

get-with_value : (m : Names) (name : List ℕ) (new : Option (List ℕ)) (x : List ℕ) → map.get (with_value m name new) x ≡ step_new new (eq_by_cmp key_cmp x name) (map.get m x)
get-with_value m name None x = refl
get-with_value m name (Some v) x = by (is_zero v)
  where
    by : (b : Bool) → map.get (cond b (map.remove m name) (map.insert m name v)) x ≡ cond (eq_by_cmp key_cmp x name) (cond b None (Some v)) (map.get m x)
    by true = get-remove nat_list_cmp_total m name x
    by false = get-insert nat_list_cmp_total m name v x

get-with_refs : (us : List RefUpdate) (m : Names) (x : List ℕ) → map.get (with_refs m us) x ≡ step_updates us x (map.get m x)
get-with_refs [] m x = refl
get-with_refs (u ∷ us) m x = get-with_refs us (with_value m u.name u.new) x ∙ ap (step_updates us x) (get-with_value m u.name u.new x)

get-change : (ch : Change) (m : Names) (x : List ℕ) → map.get (refs_change ch m) x ≡ step_here ch x (map.get m x)
get-change (Create pool) m x = get-empty key_cmp x
get-change Delete m x = get-empty key_cmp x
get-change (Link pool) m x = refl
get-change (Write refs needed added) m x = get-with_refs refs m x
get-change (Repack file dropped) m x = refl
get-change (Prune file dropped) m x = refl
get-change (PackRefs file) m x = refl
get-change (Unlink file) m x = refl

get-after : (e : Entry) (path : List ℕ) (m : Names) (x : List ℕ) → map.get (refs_after e path m) x ≡ step_entry e path x (map.get m x)
get-after e path m x = by (eq_by_cmp key_cmp path e.path)
  where
    by : (b : Bool) → map.get (cond b (refs_change e.change m) m) x ≡ cond b (step_here e.change x (map.get m x)) (map.get m x)
    by true = get-change e.change m x
    by false = refl

-- ---- from the tree to the table

pub found_value : (floor front : ℕ) (es : List (List ℕ × Track)) (p : ℕ) (path x : List ℕ) (slot : Option Track) (value : Option (List ℕ)) → slot ≡ at_key es path → value ≡ track_value slot p x
    → value ≡ map.get (refs_at (record { floor = floor; front = front; repos = from_entries es }) p path) x
found_value floor front es p path x slot value a b = b ∙ ap (λ s. track_value s p x) (a ∙ sym (get_key es path)) ∙ sym (get-track_refs (map.get (from_entries es) path) p x)

pub empty_table : (floor : ℕ) (es : List (List ℕ × Track)) → es ≡ [] → IsEmpty floor (record { floor = floor; front = floor; repos = from_entries es })
empty_table floor es e = record { floor = refl; front = refl; refs = λ p path. ap (λ s. track_refs s p) (get_key es path ∙ ap (λ fs. at_key fs path) e) }

pub same_table : (floor front : ℕ) (es fs : List (List ℕ × Track)) → ((path : List ℕ) → Same (at_key es path) (at_key fs path)) → IsSameTable (record { floor = floor; front = front; repos = from_entries es }) (record { floor = floor; front = front; repos = from_entries fs })
same_table floor front es fs h = record {
  floor = refl;
  front = refl;
  refs = λ p path. same_refs _ _ (λ x.
      get-track_refs (map.get (from_entries fs) path) p x
      ∙ ap (λ s. track_value s p x) (get_key fs path)
      ∙ (h path).value p x
      ∙ ap (λ s. track_value s p x) (sym (get_key es path))
      ∙ sym (get-track_refs (map.get (from_entries es) path) p x));
}

pub added : (floor front position : ℕ) (e : Entry) (es fs : List (List ℕ × Track)) → position ≡ front + 1 → ((path : List ℕ) → Steps front (step_entry e path) (at_key es path) (at_key fs path))
    → Adds e (record { floor = floor; front = front; repos = from_entries es }) (record { floor = floor; front = position; repos = from_entries fs })
added floor front position e es fs is h = record {
  floor = refl;
  front = is;
  next = λ path. same_refs _ _ (λ x.
      get-track_refs (map.get (from_entries fs) path) (front + 1) x
      ∙ ap (λ s. track_value s (front + 1) x) (get_key fs path)
      ∙ (h path).next x
      ∙ ap (λ s. step_entry e path x (track_value s front x)) (sym (get_key es path))
      ∙ ap (step_entry e path x) (sym (get-track_refs (map.get (from_entries es) path) front x))
      ∙ sym (get-after e path (track_refs (map.get (from_entries es) path) front) x));
  earlier = λ p path l. same_refs _ _ (λ x.
      get-track_refs (map.get (from_entries fs) path) p x
      ∙ ap (λ s. track_value s p x) (get_key fs path)
      ∙ (h path).earlier p x l
      ∙ ap (λ s. track_value s p x) (sym (get_key es path))
      ∙ sym (get-track_refs (map.get (from_entries es) path) p x));
}

pub found_refs : (floor front : ℕ) (es : List (List ℕ × Track)) (p : ℕ) (path : List ℕ) (slot : Option Track) → slot ≡ at_key es path → track_refs slot p ≡ refs_at (record { floor = floor; front = front; repos = from_entries es }) p path
found_refs floor front es p path slot a = ap (λ s. track_refs s p) (a ∙ sym (get_key es path))
