-- Look-ups after an entry was edited or added.
use Rattle.std.proofs.Common.{◌≡◌, ℕ, zero, suc, ◌<◌, ◌≤◌, nat_lt, Bool, true, false, cond, ◌&&◌, ◌||◌, T, IsTrue, IsSome, IfSome, List, [], ◌∷◌, ◌++◌, length, take, drop, drop-cons, slice_index_or, slice_get, slice_set, Option, Some, None, Result, Ok, Err, OnOk, OnErr, refl, sym, ap, ◌∙◌, subst, arith, append_assoc}
use Rattle.std.proofs.lemmas.Bool.Decides.{nat_tests}
use Rattle.std.specs.Option.{option_map}
use Rattle.std.specs.Ordering.{is_lt, eq_by_cmp}
use Rattle.std.specs.Cmp.{eq_by_cmp_equiv}
use Rattle.std.specs.Cmp.Lexicographic.{nat_list_cmp_total}
use Rattle.std.specs.FinMap.{is_sorted}
use Rattle.std.specs.FinMap.Entries.{below_all}
use Rattle.gt_model.specs.Contents.{key_cmp}
use Rattle.gt_versions.specs.Versions.{ready, put_at, is_last}
use Rattle.gt_versions.proofs.Keys.{at_key, flip}
use Rattle.gt_slots.specs.Slots.{items_of, slot_ready}
use Rattle.gt_slots.specs.Pages.{all, page_limit, NoneEmpty, NoneLonger, IsWell, page, front, rest, IsAt, Inserts, Replaces, Edits}
use Rattle.gt_slots.proofs.SortLaws.{look_past}
use Rattle.gt_slots.proofs.PlaceLaws.{front_rest}
use Rattle.gt_slots.proofs.EditLaws.{full_set, short_set, page_short, set_page}
use Rattle.gt_slots.proofs.LookLaws.{value_at, got_is, got_out}

same_key : (k : List ℕ) → eq_by_cmp key_cmp k k ≡ true
same_key k = (eq_by_cmp_equiv nat_list_cmp_total).refl k

not_none : {A : Type 0} (b : Bool) (x : A) (o : Option A) → cond b (Some x) o ≡ None → (b ≡ false) × (o ≡ None)
not_none true x o h = let no : ⊥ = cc in absurd no
not_none false x o h = (refl, h)

module _ {X : Type 0} where
  -- ---- an entry more

  here_by : (k : List ℕ) (v : X) (xs ys : List (List ℕ × X)) → at_key (xs ++ ys) k ≡ None → at_key (xs ++ (k, v) ∷ ys) k ≡ Some v
  here_by k v [] ys h = ap (λ b. cond b (Some v) (at_key ys k)) (same_key k)
  here_by k v (x ∷ xs) ys h =
      let n = not_none (eq_by_cmp key_cmp k x.0) x.1 (at_key (xs ++ ys) k) h in
      ap (λ b. cond b (Some x.1) (at_key (xs ++ (k, v) ∷ ys) k)) n.0 ∙ here_by k v xs ys n.1

  pub others_by : (q : List ℕ) (e : List ℕ × X) (xs ys : List (List ℕ × X)) → eq_by_cmp key_cmp q e.0 ≡ false → at_key (xs ++ e ∷ ys) q ≡ at_key (xs ++ ys) q
  others_by q e [] ys h = ap (λ b. cond b (Some e.1) (at_key ys q)) h
  others_by q e (x ∷ xs) ys h = ap (cond (eq_by_cmp key_cmp q x.0) (Some x.1)) (others_by q e xs ys h)

  pub inserted_here : (k : List ℕ) (v : X) (es fs : List (List ℕ × X)) → Inserts (k, v) es fs → at_key es k ≡ None → at_key fs k ≡ Some v
  inserted_here k v es fs i none = ap (λ l. at_key l k) i.new ∙ here_by k v i.left i.right (sym (ap (λ l. at_key l k) i.old) ∙ none)

  pub inserted_others : (k q : List ℕ) (v : X) (es fs : List (List ℕ × X)) → Inserts (k, v) es fs → eq_by_cmp key_cmp k q ≡ false → at_key fs q ≡ at_key es q
  inserted_others k q v es fs i h = ap (λ l. at_key l q) i.new ∙ others_by q (k, v) i.left i.right (flip q k ∙ h) ∙ sym (ap (λ l. at_key l q) i.old)

  -- ---- an entry edited

  -- what stands behind a place
  abbrev pub tail_at : List (List (List ℕ × X)) → ℕ → ℕ → List (List ℕ × X)
  tail_at [] i j = []
  tail_at (p ∷ ps) zero j = drop (suc j) p ++ all ps
  tail_at (p ∷ ps) (suc i) j = tail_at ps i j

  pub all_at : (ps : List (List (List ℕ × X))) (i j : ℕ) (d : List ℕ × X) → i < length ps → j < length (page ps i) → all ps ≡ front ps i j ++ slice_index_or (page ps i) j d ∷ tail_at ps i j
  all_at ps i j d l m = sym (front_rest ps i j) ∙ ap (λ q. front ps i j ++ q) (rest_at ps i j l m)
    where
      rest_at : (ps : List (List (List ℕ × X))) (i j : ℕ) → i < length ps → j < length (page ps i) → rest ps i j ≡ slice_index_or (page ps i) j d ∷ tail_at ps i j
      rest_at [] i j l m = absurd (omega arith)
      rest_at (p ∷ ps) zero j l m = ap (λ q. q ++ all ps) (drop-cons p j d m)
      rest_at (p ∷ ps) (suc i) j l m = rest_at ps i j (omega arith) m

  set_at : (p : List (List ℕ × X)) (j : ℕ) (e : List ℕ × X) → j < length p → slice_set p j e ≡ take j p ++ e ∷ drop (suc j) p
  set_at [] j e l = absurd (omega arith)
  set_at (x ∷ xs) zero e l = refl
  set_at (x ∷ xs) (suc j) e l = ap (λ q. x ∷ q) (set_at xs j e (omega arith))

  all_set : (ps : List (List (List ℕ × X))) (i j : ℕ) (e : List ℕ × X) → i < length ps → j < length (page ps i) → all (slice_set ps i (slice_set (page ps i) j e)) ≡ front ps i j ++ e ∷ tail_at ps i j
  all_set [] i j e l m = absurd (omega arith)
  all_set (p ∷ ps) zero j e l m = ap (λ q. q ++ all ps) (set_at p j e m) ∙ append_assoc (take j p) (e ∷ drop (suc j) p) (all ps)
  all_set (p ∷ ps) (suc i) j e l m = ap (λ q. p ++ q) (all_set ps i j e (omega arith) m) ∙ sym (append_assoc p (front ps i j) (e ∷ tail_at ps i j))

  all_edited : (ps qs : List (List (List ℕ × X))) (i j : ℕ) (d : List ℕ × X) → i < length ps → j < length (page ps i) → Edits i j ps qs → all qs ≡ front ps i j ++ slice_index_or (page qs i) j d ∷ tail_at ps i j
  all_edited ps qs i j d l m h = ap all (h.set ∙ ap (slice_set ps i) (h.entry.set d)) ∙ all_set ps i j (slice_index_or (page qs i) j d) l m

  below_rekey : (a : List ℕ) (e f : List ℕ × X) (xs ys : List (List ℕ × X)) → f.0 ≡ e.0 → below_all key_cmp a (xs ++ f ∷ ys) ≡ below_all key_cmp a (xs ++ e ∷ ys)
  below_rekey a e f [] ys h = ap (λ k. is_lt (key_cmp a k) && below_all key_cmp a ys) h
  below_rekey a e f (x ∷ xs) ys h = ap (λ b. is_lt (key_cmp a x.0) && b) (below_rekey a e f xs ys h)

  sorted_rekey : (e f : List ℕ × X) (xs ys : List (List ℕ × X)) → f.0 ≡ e.0 → is_sorted key_cmp (xs ++ f ∷ ys) ≡ is_sorted key_cmp (xs ++ e ∷ ys)
  sorted_rekey e f [] ys h = ap (λ k. below_all key_cmp k ys && is_sorted key_cmp ys) h
  sorted_rekey e f (x ∷ xs) ys h =
      ap (λ b. b && is_sorted key_cmp (xs ++ f ∷ ys)) (below_rekey x.0 e f xs ys h)
      ∙ ap (λ b. below_all key_cmp x.0 (xs ++ e ∷ ys) && b) (sorted_rekey e f xs ys h)

  length_set : (p : List (List ℕ × X)) (j : ℕ) (e : List ℕ × X) → length (slice_set p j e) ≡ length p
  length_set [] j e = refl
  length_set (x ∷ xs) zero e = refl
  length_set (x ∷ xs) (suc j) e = ap suc (length_set xs j e)

  -- some entry stands at a place
  pub some_entry : (p : List (List ℕ × X)) (j : ℕ) → j < length p → List ℕ × X
  some_entry [] j l = absurd (omega arith)
  some_entry (x ∷ xs) j l = x

  module _ (t : List ℕ) (ps qs : List (List (List ℕ × X))) (i j : ℕ) (w : IsWell ps) (a : IsAt t ps i j) (h : Edits i j ps qs) where
    abbrev pub d : List ℕ × X
    d = some_entry (page ps i) j a.slot_fits

    pub edited_well : IsWell qs
    edited_well = record {
      sorted =
          let P : Bool → Type 0 = λ b. T b in
          let S : List (List ℕ × X) → Type 0 = λ es. T (is_sorted key_cmp es) in
          subst S (sym (all_edited ps qs i j d a.page_fits a.slot_fits h))
          (subst P (sym (sorted_rekey (slice_index_or (page ps i) j d) (slice_index_or (page qs i) j d) (front ps i j) (tail_at ps i j) (h.entry.key d)))
          (subst S (all_at ps i j d a.page_fits a.slot_fits) w.sorted));
      full =
          let Q : List (List (List ℕ × X)) → Type 0 = λ rs. NoneEmpty rs in
          let m : j < length (page ps i) = a.slot_fits in
          let n : length (page qs i) ≡ length (page ps i) = ap length (h.entry.set d) ∙ length_set (page ps i) j (slice_index_or (page qs i) j d) in
          subst Q (sym h.set) (full_set ps i (page qs i) w.full (omega (arith, m, n)));
      short =
          let Q : List (List (List ℕ × X)) → Type 0 = λ rs. NoneLonger page_limit rs in
          let most = page_short page_limit ps i w.short in
          let n : length (page qs i) ≡ length (page ps i) = ap length (h.entry.set d) ∙ length_set (page ps i) j (slice_index_or (page qs i) j d) in
          subst Q (sym h.set) (short_set page_limit ps i (page qs i) w.short (omega (arith, most, n)));
    }

    pub edited_here : at_key (all qs) t ≡ Some (slice_index_or (page qs i) j d).1
    edited_here =
        ap (λ es. at_key es t) (all_edited ps qs i j d a.page_fits a.slot_fits h)
        ∙ look_past t (front ps i j) (slice_index_or (page qs i) j d ∷ tail_at ps i j) a.place.before
        ∙ ap (λ b. cond b (Some (slice_index_or (page qs i) j d).1) (at_key (tail_at ps i j) t)) (ap (eq_by_cmp key_cmp t) (h.entry.key d ∙ a.key d) ∙ same_key t)

    pub edited_others : (x : List ℕ) → eq_by_cmp key_cmp t x ≡ false → at_key (all qs) x ≡ at_key (all ps) x
    edited_others x off =
        ap (λ es. at_key es x) (all_edited ps qs i j d a.page_fits a.slot_fits h)
        ∙ others_by x (slice_index_or (page qs i) j d) (front ps i j) (tail_at ps i j) (ap (eq_by_cmp key_cmp x) (h.entry.key d ∙ a.key d) ∙ flip x t ∙ off)
        ∙ sym (others_by x (slice_index_or (page ps i) j d) (front ps i j) (tail_at ps i j) (ap (eq_by_cmp key_cmp x) (a.key d) ∙ flip x t ∙ off))
        ∙ sym (ap (λ es. at_key es x) (all_at ps i j d a.page_fits a.slot_fits))

    pub edited_was : at_key (all ps) t ≡ Some (slice_index_or (page ps i) j d).1
    edited_was = value_at t ps i j d w a

  pub look_value : (t : List ℕ) (ps : List (List (List ℕ × X))) (i j : ℕ) (o : Option (List ℕ × X)) → IsWell ps → IsAt t ps i j → o ≡ slice_get (page ps i) j → option_map (λ (s : List ℕ × X). s.1) o ≡ at_key (all ps) t
  look_value t ps i j None w a h = let l : j < length (page ps i) = a.slot_fits in let m : length (page ps i) ≤ j = got_out (page ps i) j h in absurd (omega (arith, l, m))
  look_value t ps i j (Some e) w a h = sym (value_at t ps i j e w a ∙ ap (λ (s : List ℕ × X). Some s.1) (got_is (page ps i) j e e h))

  pub look_key : (t : List ℕ) (ps : List (List (List ℕ × X))) (i j : ℕ) (o : Option (List ℕ × X)) → IsAt t ps i j → o ≡ slice_get (page ps i) j → IfSome o (λ (s : List ℕ × X). s.0 ≡ t)
  look_key t ps i j None a h = tt
  look_key t ps i j (Some e) a h = sym (ap (λ (s : List ℕ × X). s.0) (got_is (page ps i) j e e h)) ∙ a.key e

-- ---- at the slots of references

-- what holds of the slot that is found holds at its place
pub at_place : (P : Option (List (ℕ × Option (List ℕ)) × ℕ) → Type 0) (t : List ℕ) (ps : List (List (List ℕ × (List (ℕ × Option (List ℕ)) × ℕ)))) (i j : ℕ) → IsWell ps → IsAt t ps i j → P (at_key (all ps) t)
    → (d : List ℕ × (List (ℕ × Option (List ℕ)) × ℕ)) → P (Some (slice_index_or (page ps i) j d).1)
at_place P t ps i j w a h d = subst P (value_at t ps i j d w a) h

or_right : (b c : Bool) → c ≡ true → (b || c) ≡ true
or_right true c h = refl
or_right false c h = h

ready_more : (q m n : ℕ) (es fs : List (ℕ × Option (List ℕ))) → fs ≡ es → m ≤ n → IsTrue (ready q (es, m)) → IsTrue (ready q (fs, n))
ready_more q m n es fs e l h = by (nat_lt 0 m) refl h
  where
    by : (b : Bool) → nat_lt 0 m ≡ b → IsTrue (b || is_last q es) → (nat_lt 0 n || is_last q fs) ≡ true
    by true t h = let on : nat_lt 0 n ≡ true = grind (arith, nat_tests) in ap (λ b. b || is_last q fs) on
    by false t h = or_right (nat_lt 0 n) (is_last q fs) (ap (is_last q) e ∙ h)

module _ (t : List ℕ) (ps qs : List (List (List ℕ × (List (ℕ × Option (List ℕ)) × ℕ)))) (i j : ℕ) (w : IsWell ps) (a : IsAt t ps i j) (h : Edits i j ps qs) where
  pub put_here : (q : ℕ) (v : Option (List ℕ)) → ((d : List ℕ × (List (ℕ × Option (List ℕ)) × ℕ)) → (slice_index_or (page qs i) j d).1.0 ≡ put_at q v (slice_index_or (page ps i) j d).1.0)
      → items_of (at_key (all qs) t) ≡ put_at q v (items_of (at_key (all ps) t))
  put_here q v is = ap items_of (edited_here t ps qs i j w a h) ∙ is _ ∙ ap (λ s. put_at q v (items_of s)) (sym (edited_was t ps qs i j w a h))

  pub put_some : IsSome (at_key (all qs) t)
  put_some = let P : Option (List (ℕ × Option (List ℕ)) × ℕ) → Type 0 = λ s. IsSome s in subst P (sym (edited_here t ps qs i j w a h)) refl

  pub grown_here : ((d : List ℕ × (List (ℕ × Option (List ℕ)) × ℕ)) → (slice_index_or (page qs i) j d).1.0 ≡ (slice_index_or (page ps i) j d).1.0) → items_of (at_key (all qs) t) ≡ items_of (at_key (all ps) t)
  grown_here is = ap items_of (edited_here t ps qs i j w a h) ∙ is _ ∙ ap items_of (sym (edited_was t ps qs i j w a h))

  pub grown_kept : ((d : List ℕ × (List (ℕ × Option (List ℕ)) × ℕ)) → (slice_index_or (page qs i) j d).1.0 ≡ (slice_index_or (page ps i) j d).1.0)
      → ((d : List ℕ × (List (ℕ × Option (List ℕ)) × ℕ)) → (slice_index_or (page ps i) j d).1.1 ≤ (slice_index_or (page qs i) j d).1.1)
      → (q : ℕ) → IsTrue (slot_ready q (at_key (all ps) t)) → IsTrue (slot_ready q (at_key (all qs) t))
  grown_kept is more q r =
      let P : Option (List (ℕ × Option (List ℕ)) × ℕ) → Type 0 = λ s. IsTrue (slot_ready q s) in
      subst P (sym (edited_here t ps qs i j w a h)) (ready_more q _ _ _ _ (is _) (more _) (subst P (edited_was t ps qs i j w a h) r))

  pub grown_ok : {T E : Type 0} (res : Result T E) → OnOk res ((d : List ℕ × (List (ℕ × Option (List ℕ)) × ℕ)) → 0 < (slice_index_or (page qs i) j d).1.1) → OnOk res ((q : ℕ) → IsTrue (slot_ready q (at_key (all qs) t)))
  grown_ok (Err e) ok = tt
  grown_ok (Ok r) ok = λ q.
      let P : Option (List (ℕ × Option (List ℕ)) × ℕ) → Type 0 = λ s. IsTrue (slot_ready q s) in
      subst P (sym (edited_here t ps qs i j w a h)) (room q (slice_index_or (page qs i) j (some_entry (page ps i) j a.slot_fits)).1 (ok _))
    where
      room : (q : ℕ) (s : List (ℕ × Option (List ℕ)) × ℕ) → 0 < s.1 → IsTrue (ready q s)
      room q s l = let on : nat_lt 0 s.1 ≡ true = grind (arith, nat_tests) in ap (λ b. b || is_last q s.0) on

-- ---- the page at a place after a call

module _ {X : Type 0} where
  pub edits_at : (ps : List (List (List ℕ × X))) (i j : ℕ) (found new : List (List ℕ × X)) → i < length ps → page ps i ≡ found → Replaces j found new → Edits i j ps (slice_set ps i new)
  edits_at ps i j found new l is r =
      let at = set_page ps i new l in
      let P : List (List ℕ × X) → Type 0 = λ q. Replaces j (page ps i) q in
      let Q : List (List ℕ × X) → Type 0 = λ q. Replaces j q new in
      record { set = ap (slice_set ps i) (sym at); entry = subst P (sym at) (subst Q (sym is) r) }

  -- what holds of a page before and after holds at its place
  pub moved : (P : List (List ℕ × X) → List (List ℕ × X) → Type 0) (ps : List (List (List ℕ × X))) (i : ℕ) (found new : List (List ℕ × X)) → i < length ps → page ps i ≡ found → P found new → P (page ps i) (page (slice_set ps i new) i)
  moved P ps i found new l is h =
      let A : List (List ℕ × X) → Type 0 = λ q. P (page ps i) q in
      let B : List (List ℕ × X) → Type 0 = λ q. P q new in
      subst A (sym (set_page ps i new l)) (subst B (sym is) h)

-- ---- a reference that is added without a value

module _ {T E : Type 0} (res : Result T E) (es fs : List (List ℕ × (List (ℕ × Option (List ℕ)) × ℕ))) (k key : List ℕ) (s : List (ℕ × Option (List ℕ)) × ℕ) (is : key ≡ k) (none : at_key es k ≡ None) where
  added : Inserts (key, s) es fs → at_key fs k ≡ Some s
  added i = let P : List ℕ → Type 0 = λ n. Inserts (n, s) es fs in inserted_here k s es fs (subst P is i) none

  pub add_here : s.0 ≡ [] → OnOk res (Inserts (key, s) es fs) → OnErr res (fs ≡ es) → items_of (at_key fs k) ≡ []
  add_here empty ok err = by res ok err
    where
      by : (r : Result T E) → OnOk r (Inserts (key, s) es fs) → OnErr r (fs ≡ es) → items_of (at_key fs k) ≡ []
      by (Ok r) ok err = ap items_of (added ok) ∙ empty
      by (Err e) ok err = ap items_of (ap (λ l. at_key l k) err ∙ none)

  pub add_ready : 0 < s.1 → OnOk res (Inserts (key, s) es fs) → OnOk res ((q : ℕ) → IsTrue (slot_ready q (at_key fs k)))
  add_ready room ok = by res ok
    where
      by : (r : Result T E) → OnOk r (Inserts (key, s) es fs) → OnOk r ((q : ℕ) → IsTrue (slot_ready q (at_key fs k)))
      by (Ok r) ok = λ q.
          let P : Option (List (ℕ × Option (List ℕ)) × ℕ) → Type 0 = λ o. IsTrue (slot_ready q o) in
          let on : nat_lt 0 s.1 ≡ true = grind (arith, nat_tests) in
          subst P (sym (added ok)) (ap (λ b. b || is_last q s.0) on)
      by (Err e) ok = tt

  pub add_others : OnOk res (Inserts (key, s) es fs) → OnErr res (fs ≡ es) → (x : List ℕ) → eq_by_cmp key_cmp k x ≡ false → at_key fs x ≡ at_key es x
  add_others ok err x off = by res ok err
    where
      by : (r : Result T E) → OnOk r (Inserts (key, s) es fs) → OnErr r (fs ≡ es) → at_key fs x ≡ at_key es x
      by (Ok r) ok err = inserted_others key x s es fs ok (ap (λ n. eq_by_cmp key_cmp n x) is ∙ off)
      by (Err e) ok err = ap (λ l. at_key l x) err
