-- A table whose floor was raised: from there on it has what it had.
use Rattle.std.proofs.Common.{◌≡◌, ◌⊎◌, inl, inr, ℕ, suc, ◌+◌, ◌-◌, ◌<◌, ◌≤◌, Bool, true, false, cond, not, ◌||◌, ◌&&◌, is_some, nat_le, nat_eq, T, List, [], ◌∷◌, ◌++◌, length, take, drop, Option, Some, None, IfSome, refl, sym, ap, ◌∙◌, subst, arith}
use Rattle.std.proofs.lemmas.Bool.Decides.{nat_tests}
use Rattle.std.proofs.lemmas.List.{length-drop, take-append-drop, take-take, drop-take}
use Rattle.std.specs.Map.Calls.{RetainsPairs}
use Rattle.std.specs.FinMap as map
use Rattle.std.specs.FinMap.{FinMap, from_entries, is_sorted, get-empty, get-entries}
use Rattle.std.specs.FinMap.Entries.{below_all}
use Rattle.std.specs.Ordering.{eq_by_cmp, is_lt}
use Rattle.gt_model.specs.Contents.{key_cmp, Content, at, after_all}
use Rattle.gt_model.specs.Verdicts.{refs_in}
use Rattle.gt_model.specs.declared.entry.Entry.{Entry}
use Rattle.gt_model.proofs.Logs.{after_all-append}
use Rattle.gt_versions.specs.Ascending.{IsFrom, IsAscending}
use Rattle.gt_versions.specs.Versions.{last_at, IsUpTo}
use Rattle.gt_versions.specs.Lives.{start_of, value_since}
use Rattle.gt_versions.specs.Raised.{past, kept_value, raised_values}
use Rattle.gt_versions.proofs.Keys.{at_key, at_key-same, get_key, flip}
use Rattle.gt_versions.proofs.RaisedLaws.{IsPast, IsAtFloor, past_either, past-from, past-upto, found_before}
use Rattle.gt_versions.proofs.KeptLaws.{value_since-from, value_since-raised, value_since-late, values-upto, values-from}
use Rattle.gt_slots.specs.Raised as slots
use Rattle.gt_slots.specs.Slots.{items_of}
use Rattle.gt_slots.proofs.SortLaws.{both, front_of, back_of, none_above}
use Rattle.gt_reftable.specs.Tracks.{Track, start, value_in, named_at, IsTrackUpTo}
use Rattle.gt_reftable.specs.Table.{Table, AllUpTo}
use Rattle.gt_reftable.specs.Agree.{Agrees}
use Rattle.gt_reftable.specs.Lean.{IsLeanRef, is_needed, IsLeanRepo, IsLean}
use Rattle.gt_reftable.specs.Raised.{Raises, RaisesTrack, RaisesSlot}
use Rattle.gt_reftable.proofs.RefsLaws.{same_refs, get-track_refs}

-- ---- one repository

start_low : (to : ℕ) (f : Option (ℕ × Bool)) → IfSome f (λ e. e.0 ≤ to) → start_of f ≤ suc to
start_low to None h = omega arith
start_low to (Some e) h = let low : e.0 ≤ to = h in omega arith

module _ (to : ℕ) (old new : Track) (lives : new.lives.0 ≡ past to old.lives.0) (asc : IsAscending old.lives.0) (refs : slots.Raises (start old to) to old.refs new.refs) (current : slots.Raises 0 to old.current new.current) where
  value_raised : (p : ℕ) (x : List ℕ) → to ≤ p → value_in new p x ≡ value_in old p x
  value_raised p x l = by (past_either to p old.lives.0 l asc)
    where
      es : List (ℕ × Option (List ℕ))
      es = items_of (map.get old.refs x)

      from : (f : Option (ℕ × Bool)) → last_at (past to old.lives.0) p None ≡ f → value_in new p x ≡ value_since (start_of f) (last_at (raised_values (start old to) to es) p None)
      from f is =
          ap (λ c. value_since c (last_at (items_of (map.get new.refs x)) p None)) (ap (λ ls. start_of (last_at ls p None)) lives ∙ ap start_of is)
          ∙ ap (λ vs. value_since (start_of f) (last_at vs p None)) (refs.items x)

      by : IsPast to p old.lives.0 ⊎ IsAtFloor to p old.lives.0 → value_in new p x ≡ value_in old p x
      by (inl s) =
          from (Some s.version) s.rest
          ∙ value_since-late s.version.0 (start old to) to p es s.late l (refs.ascending x)
          ∙ sym (ap (λ f. value_since (start_of f) (last_at es p None)) s.found)
      by (inr s) =
          from None s.rest
          ∙ value_since-from (start old to) p (raised_values (start old to) to es) (values-from (start old to) to es (start_low to (last_at old.lives.0 to None) (found_before to old.lives.0)))
          ∙ value_since-raised (start old to) (start old to) to p es (omega arith) l (refs.ascending x)
          ∙ sym (ap (λ f. value_since (start_of f) (last_at es p None)) s.found)

  newest_raised : (q : ℕ) → to ≤ q → IsTrackUpTo q old → IsTrackUpTo q new
  newest_raised q l up = record {
    values = record {
      lives = subst (λ ls. IsUpTo q ls) (sym lives) (past-upto q to old.lives.0 up.values.lives);
      refs = λ x. subst (λ vs. IsUpTo q vs) (sym (refs.items x)) (values-upto q (start old to) to (items_of (map.get old.refs x)) (up.values.refs x));
      current = λ x. subst (λ vs. IsUpTo q vs) (sym (current.items x)) (values-upto q 0 to (items_of (map.get old.current x)) (up.values.current x));
      newest = λ x.
          ap (named_at q) (current.items x)
          ∙ value_since-raised 0 0 to q (items_of (map.get old.current x)) (omega arith) l (current.ascending x)
          ∙ up.values.newest x
          ∙ sym (value_raised q x l);
    };
    gone = λ x e. current.items x ∙ ap (raised_values 0 to) (up.gone x (sym (value_raised q x l) ∙ e));
  }

  pub track_raised : RaisesTrack to old new
  track_raised = record { value = value_raised; newest = newest_raised }

-- ---- nothing is left that isn't needed

lean_front : (to : ℕ) (e : ℕ × Option (List ℕ)) (xs : List (ℕ × Option (List ℕ))) (a b : Bool) → is_some e.1 ≡ b → IsFrom (to + 1) xs → 0 < length (cond (a && b) (e ∷ []) [] ++ xs) → IsLeanRef to (cond (a && b) (e ∷ []) [] ++ xs)
lean_front to e xs true true s h l = (λ _. s, h)
lean_front to e [] true false s h l = absurd (omega arith)
lean_front to e (x ∷ xs) true false s h l = (λ low. let high : to + 1 ≤ x.0 = h.0 in absurd (omega arith), h.1)
lean_front to e [] false b s h l = absurd (omega arith)
lean_front to e (x ∷ xs) false b s h l = (λ low. let high : to + 1 ≤ x.0 = h.0 in absurd (omega arith), h.1)

lean_rest : (to : ℕ) (xs : List (ℕ × Option (List ℕ))) → IsFrom (to + 1) xs → 0 < length xs → IsLeanRef to xs
lean_rest to [] h l = absurd (omega arith)
lean_rest to (x ∷ xs) h l = (λ low. let high : to + 1 ≤ x.0 = h.0 in absurd (omega arith), h.1)

lean_kept : (start to : ℕ) (f : Option (ℕ × Option (List ℕ))) (xs : List (ℕ × Option (List ℕ))) → IsFrom (to + 1) xs → 0 < length (kept_value start f ++ xs) → IsLeanRef to (kept_value start f ++ xs)
lean_kept start to None xs h l = lean_rest to xs h l
lean_kept start to (Some e) xs h l = lean_front to e xs (nat_le start e.0) (is_some e.1) refl h l

later : {V : Type 0} (to : ℕ) (es : List (ℕ × V)) → IsFrom (to + 1) (past to es)
later to es = subst (λ n. IsFrom n (past to es)) (omega arith) (past-from to es)

lean_values : (start to : ℕ) (es : List (ℕ × Option (List ℕ))) → 0 < length (raised_values start to es) → IsLeanRef to (raised_values start to es)
lean_values start to es l = lean_kept start to (last_at es to None) (past to es) (later to es) l

lean_slot : (start to : ℕ) (es : List (ℕ × Option (List ℕ))) (s : Option (List (ℕ × Option (List ℕ)) × ℕ)) → items_of s ≡ raised_values start to es → IfSome s (λ s. 0 < length s.0) → IfSome s (λ s. IsLeanRef to s.0)
lean_slot start to es None is l = tt
lean_slot start to es (Some s) is l = subst (λ vs. IsLeanRef to vs) (sym is) (lean_values start to es (subst (λ vs. 0 < length vs) is l))

pub repo_lean : (to : ℕ) (old new : Track) (c : ℕ) → new.lives.0 ≡ past to old.lives.0 → slots.Raises c to old.refs new.refs → slots.Raises 0 to old.current new.current → is_needed new ≡ true → IsLeanRepo to new
repo_lean to old new c lives refs current needed = record {
  lives = subst (λ ls. IsFrom (to + 1) ls) (sym lives) (later to old.lives.0);
  refs = λ x. lean_slot c to (items_of (map.get old.refs x)) (map.get new.refs x) (refs.items x) (refs.left x);
  current = λ x. lean_slot 0 to (items_of (map.get old.current x)) (map.get new.current x) (current.items x) (current.left x);
  needed = needed;
}

pub none_raised : (to : ℕ) → slots.Raises 0 to map.empty map.empty
none_raised to = record {
  items = λ x. none x ∙ sym (ap (raised_values 0 to) (none x));
  left = λ x. subst (λ s. IfSome s (λ s. 0 < length s.0)) (sym (get-empty key_cmp x)) tt;
  ascending = λ x. subst (λ es. IsAscending es) (sym (none x)) tt;
}
  where
    none : (x : List ℕ) → items_of (map.get {R = key_cmp} map.empty x) ≡ []
    none x = ap items_of (get-empty key_cmp x)

-- what isn't needed has no reference
none_at : (m : FinMap key_cmp (List (ℕ × Option (List ℕ)) × ℕ)) (es : List (List ℕ × (List (ℕ × Option (List ℕ)) × ℕ))) → map.entries m ≡ es → not (nat_eq (length es) 0) ≡ false → (x : List ℕ) → map.get m x ≡ None
none_at m [] is h x = get-entries m x ∙ ap (map.find key_cmp x) is
none_at m (e ∷ es) is h x = let some : nat_eq (length (e ∷ es)) 0 ≡ false = grind (arith, nat_tests) in let no : ⊥ = cc in absurd no

second_off : (a b : Bool) → (a || b) ≡ false → b ≡ false
second_off true b h = let no : ⊥ = cc in absurd no
second_off false b h = h

pub nothing_left : (t : Track) → is_needed t ≡ false → (p : ℕ) (x : List ℕ) → value_in t p x ≡ None
nothing_left t h p x = ap (λ s. value_since (start t p) (last_at (items_of s) p None)) (none_at t.refs (map.entries t.refs) refl (second_off _ _ h) x)

-- ---- all repositories

known : (to : ℕ) (v w : Track) → RaisesTrack to v w → IsLeanRepo to w → RaisesSlot to (Some v) (Some w)
known to v w h lean = record { value = h.value; newest = h.newest; lean = lean }

gone : (to : ℕ) (v w : Track) → RaisesTrack to v w → ((p : ℕ) (x : List ℕ) → value_in w p x ≡ None) → RaisesSlot to (Some v) None
gone to v w h none = record { value = λ p x l. sym (none p x) ∙ h.value p x l; newest = λ q l up. tt; lean = tt }

unknown : (to : ℕ) → RaisesSlot to None None
unknown to = record { value = λ p x l. refl; newest = λ q l up. tt; lean = tt }

module _ {F : Type 0} (R : F → List ℕ → Track → Bool → Track → F → Type 0) (to : ℕ) (f : F) where
  -- What a call says of a repository.
  pub record Says (v : Track) (b : Bool) (w : Track) (f' : F) : Type 0 where
    pub raised : RaisesTrack to v w
    pub lean : b ≡ true → IsLeanRepo to w
    pub gone : b ≡ false → (p : ℕ) (x : List ℕ) → value_in w p x ≡ None
    pub same : f' ≡ f

  module _ (says : (k : List ℕ) (v : Track) (b : Bool) (w : Track) (f' : F) → R f k v b w f' → Says v b w f') where
    still_below : (k : List ℕ) (es fs : List (List ℕ × Track)) → T (below_all key_cmp k es) → RetainsPairs R f es fs → T (below_all key_cmp k fs)
    still_below k [] fs l h = subst (λ l. T (below_all key_cmp k l)) (sym h) tt
    still_below k (e ∷ es) fs l h =
        let said = says e.0 e.1 h.0 h.1 h.2 h.4 in
        let rest = still_below k es h.3 (back_of (is_lt (key_cmp k e.0)) (below_all key_cmp k es) l) (subst (λ g. RetainsPairs R g es h.3) said.same h.5) in
        let P : List (List ℕ × Track) → Type 0 = λ l. T (below_all key_cmp k l) in
        subst P (sym h.6) (elim h.0 as (λ b. P (cond b ((e.0, h.1) ∷ h.3) h.3)) [ true ↦ both (is_lt (key_cmp k e.0)) (below_all key_cmp k h.3) (front_of (is_lt (key_cmp k e.0)) (below_all key_cmp k es) l) rest | false ↦ rest ])

    pub repos_raised : (es fs : List (List ℕ × Track)) → T (is_sorted key_cmp es) → RetainsPairs R f es fs → (x : List ℕ) → RaisesSlot to (at_key es x) (at_key fs x)
    repos_raised [] fs s h x = subst (λ l. RaisesSlot to None (at_key l x)) (sym h) (unknown to)
    repos_raised (e ∷ es) fs s h x =
        let said = says e.0 e.1 h.0 h.1 h.2 h.4 in
        let on = subst (λ g. RetainsPairs R g es h.3) said.same h.5 in
        let below = still_below e.0 es h.3 (front_of (below_all key_cmp e.0 es) (is_sorted key_cmp es) s) on in
        let rest = repos_raised es h.3 (back_of (below_all key_cmp e.0 es) (is_sorted key_cmp es) s) on x in
        subst (λ l. RaisesSlot to (at_key (e ∷ es) x) (at_key l x)) (sym h.6) (by h.1 h.3 h.0 said.raised said.lean said.gone below rest (eq_by_cmp key_cmp x e.0) refl)
      where
        by : (w : Track) (gs : List (List ℕ × Track)) (b : Bool) → RaisesTrack to e.1 w → (b ≡ true → IsLeanRepo to w) → (b ≡ false → (p : ℕ) (x : List ℕ) → value_in w p x ≡ None)
            → T (below_all key_cmp e.0 gs) → RaisesSlot to (at_key es x) (at_key gs x) → (here : Bool) → eq_by_cmp key_cmp x e.0 ≡ here
            → RaisesSlot to (cond (eq_by_cmp key_cmp x e.0) (Some e.1) (at_key es x)) (at_key (cond b ((e.0, w) ∷ gs) gs) x)
        by w gs true r lean none below rest here t =
            subst (λ c. RaisesSlot to (cond c (Some e.1) (at_key es x)) (cond c (Some w) (at_key gs x))) (sym t)
            (elim here as (λ c. RaisesSlot to (cond c (Some e.1) (at_key es x)) (cond c (Some w) (at_key gs x))) [ true ↦ known to e.1 w r (lean refl) | false ↦ rest ])
        by w gs false r lean none below rest true t =
            subst (λ c. RaisesSlot to (cond c (Some e.1) (at_key es x)) (at_key gs x)) (sym t)
            (subst (λ o. RaisesSlot to (Some e.1) o) (sym (at_key-same gs e.0 x (flip e.0 x ∙ t) ∙ none_above e.0 gs below)) (gone to e.1 w r (none refl)))
        by w gs false r lean none below rest false t = subst (λ c. RaisesSlot to (cond c (Some e.1) (at_key es x)) (at_key gs x)) (sym t) rest

-- ---- the table

module _ (floor front to : ℕ) (es fs : List (List ℕ × Track)) (raised : (path : List ℕ) → RaisesSlot to (at_key es path) (at_key fs path)) where
  in_tree : (path : List ℕ) → RaisesSlot to (map.get {R = key_cmp} (from_entries es) path) (map.get {R = key_cmp} (from_entries fs) path)
  in_tree path = subst (λ o. RaisesSlot to o (map.get {R = key_cmp} (from_entries fs) path)) (sym (get_key es path)) (subst (λ o. RaisesSlot to (at_key es path) o) (sym (get_key fs path)) (raised path))

  pub table_raised : Raises to (record { floor = floor; front = front; repos = from_entries es }) (record { floor = to; front = front; repos = from_entries fs })
  table_raised = record {
    floor = refl;
    front = refl;
    refs = λ p path l. same_refs _ _ (λ x. get-track_refs (map.get (from_entries fs) path) p x ∙ (in_tree path).value p x l ∙ sym (get-track_refs (map.get (from_entries es) path) p x));
  }

  pub table_lean : IsLean (record { floor = to; front = front; repos = from_entries fs })
  table_lean = record { repos = λ path. (in_tree path).lean }

  pub table_up : to ≤ front → AllUpTo front (from_entries es) → AllUpTo front (from_entries fs)
  table_up l up path = (in_tree path).newest front l (up path)

-- ---- the log

rest_of_log : (log : List Entry) (n m : ℕ) → n ≤ m → take m log ≡ take n log ++ take (m - n) (drop n log)
rest_of_log log n m l =
    let more : n + (m - n) ≡ m = omega arith in
    sym (take-append-drop n (take m log))
    ∙ ap (λ es. es ++ drop n (take m log)) (take-take n m log l)
    ∙ ap (λ k. take n log ++ drop n (take k log)) (sym more)
    ∙ ap (λ es. take n log ++ es) (drop-take n (m - n) log)

pub agrees_raised : (old new : Table) (base : Content) (log : List Entry) (to : ℕ) → Agrees old base log → old.floor ≤ to → to ≤ old.front → Raises to old new → Agrees new (at old.floor base log to) (drop (to - old.floor) log)
agrees_raised old new base log to h low high r = record {
  front =
      let a : new.floor ≡ to = r.floor in
      let b : new.front ≡ old.front = r.front in
      let c : old.front ≡ old.floor + length log = h.front in
      omega (arith, length-drop (to - old.floor) log);
  refs = λ p path from until.
      let a : new.floor ≡ to = r.floor in
      let b : new.front ≡ old.front = r.front in
      let l : to ≤ p = omega arith in
      let part : p - to ≡ p - old.floor - (to - old.floor) = omega arith in
      r.refs p path l
      ∙ h.refs p path (omega arith) (omega arith)
      ∙ ap (λ es. refs_in (after_all base es) path) (rest_of_log log (to - old.floor) (p - old.floor) (omega arith))
      ∙ ap (λ c. refs_in c path) (after_all-append base (take (to - old.floor) log) (take (p - old.floor - (to - old.floor)) (drop (to - old.floor) log)))
      ∙ ap (λ n. refs_in (after_all (at old.floor base log to) (take n (drop (to - old.floor) log))) path) (sym part ∙ ap (λ n. p - n) (sym a));
}
