-- Pages after an edit.
use Rattle.std.proofs.Common.{◌≡◌, ℕ, zero, suc, ◌+◌, ◌<◌, ◌≤◌, Bool, true, false, cond, T, List, [], ◌∷◌, ◌++◌, length, take, drop, slice_set, insert, Some, None, Result, Ok, Err, OnOk, OnErr, IfOk, refl, sym, ap, ◌∙◌, subst, arith, append_assoc, add-one, length-append}
use Rattle.std.proofs.lemmas.List.{take-append-drop, take_all, append-nil, length-drop, length-take}
use Rattle.std.specs.Ordering.{is_lt, eq_by_cmp}
use Rattle.std.specs.FinMap.{is_sorted}
use Rattle.std.specs.FinMap.Entries.{below_all}
use Rattle.gt_model.specs.Contents.{key_cmp}
use Rattle.gt_versions.proofs.Keys.{at_key}
use Rattle.gt_slots.specs.Pages.{all, page_limit, AllBefore, NoneBefore, NoneEmpty, NoneLonger, IsWell, page, front, rest, IsPlace, IsHalved, Inserts}
use Rattle.gt_slots.proofs.SortLaws.{both, front_of, back_of, T_of, below_less}
use Rattle.gt_slots.proofs.PlaceLaws.{front_rest, rest_end}
use Rattle.gt_slots.proofs.LookLaws.{behind, sorted_rest_of, look_at, at_first}

T_true : (b : Bool) → b ≡ true → T b
T_true b e = subst T (sym e) tt

module _ {X : Type 0} where
  -- ---- one page is set

  pub set_page : (ps : List (List (List ℕ × X))) (i : ℕ) (q : List (List ℕ × X)) → i < length ps → page (slice_set ps i q) i ≡ q
  set_page [] i q l = absurd (omega arith)
  set_page (p ∷ ps) zero q l = refl
  set_page (p ∷ ps) (suc i) q l = set_page ps i q (omega arith)

  pub full_set : (ps : List (List (List ℕ × X))) (i : ℕ) (q : List (List ℕ × X)) → NoneEmpty ps → 0 < length q → NoneEmpty (slice_set ps i q)
  full_set [] i q n l = tt
  full_set (p ∷ ps) zero q n l = (l, n.1)
  full_set (p ∷ ps) (suc i) q n l = (n.0, full_set ps i q n.1 l)

  pub short_set : (n : ℕ) (ps : List (List (List ℕ × X))) (i : ℕ) (q : List (List ℕ × X)) → NoneLonger n ps → length q ≤ n → NoneLonger n (slice_set ps i q)
  short_set n [] i q h l = tt
  short_set n (p ∷ ps) zero q h l = (l, h.1)
  short_set n (p ∷ ps) (suc i) q h l = (h.0, short_set n ps i q h.1 l)

  pub page_short : (n : ℕ) (ps : List (List (List ℕ × X))) (i : ℕ) → NoneLonger n ps → length (page ps i) ≤ n
  page_short n [] i h = omega arith
  page_short n (p ∷ ps) zero h = h.0
  page_short n (p ∷ ps) (suc i) h = page_short n ps i h.1

  pub set_inserted : (ps : List (List (List ℕ × X))) (i j : ℕ) (e : List ℕ × X) → i < length ps → all (slice_set ps i (insert (page ps i) j e)) ≡ front ps i j ++ e ∷ rest ps i j
  set_inserted [] i j e l = absurd (omega arith)
  set_inserted (p ∷ ps) zero j e l = append_assoc (take j p) (e ∷ drop j p) (all ps)
  set_inserted (p ∷ ps) (suc i) j e l = ap (λ q. p ++ q) (set_inserted ps i j e (omega arith)) ∙ sym (append_assoc p (front ps i j) (e ∷ rest ps i j))

  -- ---- an entry more

  below_inserted : (x k : List ℕ) (v : X) (xs ys : List (List ℕ × X)) → T (is_lt (key_cmp x k)) → T (below_all key_cmp x (xs ++ ys)) → T (below_all key_cmp x (xs ++ (k, v) ∷ ys))
  below_inserted x k v [] ys l b = both (is_lt (key_cmp x k)) (below_all key_cmp x ys) l b
  below_inserted x k v (z ∷ xs) ys l b =
      both (is_lt (key_cmp x z.0)) (below_all key_cmp x (xs ++ (k, v) ∷ ys)) (front_of (is_lt (key_cmp x z.0)) (below_all key_cmp x (xs ++ ys)) b)
      (below_inserted x k v xs ys l (back_of (is_lt (key_cmp x z.0)) (below_all key_cmp x (xs ++ ys)) b))

  pub sorted_inserted : (k : List ℕ) (v : X) (xs ys : List (List ℕ × X)) → T (is_sorted key_cmp (xs ++ ys)) → AllBefore k xs → T (below_all key_cmp k ys) → T (is_sorted key_cmp (xs ++ (k, v) ∷ ys))
  sorted_inserted k v [] ys s a b = both (below_all key_cmp k ys) (is_sorted key_cmp ys) b s
  sorted_inserted k v (x ∷ xs) ys s a b =
      both (below_all key_cmp x.0 (xs ++ (k, v) ∷ ys)) (is_sorted key_cmp (xs ++ (k, v) ∷ ys))
      (below_inserted x.0 k v xs ys (T_true (is_lt (key_cmp x.0 k)) a.0) (front_of (below_all key_cmp x.0 (xs ++ ys)) (is_sorted key_cmp (xs ++ ys)) s))
      (sorted_inserted k v xs ys (back_of (below_all key_cmp x.0 (xs ++ ys)) (is_sorted key_cmp (xs ++ ys)) s) a.1 b)

  -- what isn't before a key, nor at it, is behind it
  below_rest : (k : List ℕ) (ys : List (List ℕ × X)) → T (is_sorted key_cmp ys) → NoneBefore k ys → at_first k ys ≡ None → T (below_all key_cmp k ys)
  below_rest k [] s n h = tt
  below_rest k (e ∷ es) s n h = by (eq_by_cmp key_cmp k e.0) refl h
    where
      by : (b : Bool) → eq_by_cmp key_cmp k e.0 ≡ b → cond b (Some e.1) None ≡ None → T (below_all key_cmp k (e ∷ es))
      by true t h = let no : ⊥ = cc in absurd no
      by false t h =
          let l = behind k e.0 n.0 t in
          both (is_lt (key_cmp k e.0)) (below_all key_cmp k es) (T_of (key_cmp k e.0) l) (below_less k e.0 es l (front_of (below_all key_cmp e.0 es) (is_sorted key_cmp es) s))

  pub well_inserted : (ps : List (List (List ℕ × X))) (i j : ℕ) (k : List ℕ) (v : X) → IsWell ps → IsPlace k ps i j → i < length ps → at_key (all ps) k ≡ None → length (page ps i) < page_limit → IsWell (slice_set ps i (insert (page ps i) j (k, v)))
  well_inserted ps i j k v w p l none room = record {
    sorted =
        let P : List (List ℕ × X) → Type 0 = λ q. T (is_sorted key_cmp q) in
        subst P (sym (set_inserted ps i j (k, v) l))
        (sorted_inserted k v (front ps i j) (rest ps i j) (subst P (sym (front_rest ps i j)) w.sorted) p.before
        (below_rest k (rest ps i j) (sorted_rest_of ps i j w.sorted) p.after (sym (look_at k ps i j w p) ∙ none)));
    full = full_set ps i (insert (page ps i) j (k, v)) w.full (longer (take j (page ps i)) (drop j (page ps i)));
    short = short_set page_limit ps i (insert (page ps i) j (k, v)) w.short (one_more (take j (page ps i)) (drop j (page ps i)) (page ps i) (take-append-drop j (page ps i)) room);
  }
    where
      one_more : (xs ys p : List (List ℕ × X)) → xs ++ ys ≡ p → length p < page_limit → length (xs ++ (k, v) ∷ ys) ≤ page_limit
      one_more xs ys p is l = let n : length (xs ++ ys) ≡ length p = ap length is in omega (arith, length-append xs ((k, v) ∷ ys), length-append xs ys, n, l)

      longer : (xs ys : List (List ℕ × X)) → 0 < length (xs ++ (k, v) ∷ ys)
      longer xs ys = omega (arith, length-append xs ((k, v) ∷ ys))

  pub inserts_at : (ps : List (List (List ℕ × X))) (i j : ℕ) (e : List ℕ × X) → i < length ps → Inserts e (all ps) (all (slice_set ps i (insert (page ps i) j e)))
  inserts_at ps i j e l = record { left = front ps i j; right = rest ps i j; old = sym (front_rest ps i j); new = set_inserted ps i j e l }

  -- ---- behind all others

  pub all_before_end : (t : List ℕ) (ps : List (List (List ℕ × X))) (i j : ℕ) → IsPlace t ps i j → length ps ≤ i → AllBefore t (all ps)
  all_before_end t ps i j p l =
      let P : List (List ℕ × X) → Type 0 = λ q. AllBefore t q in
      subst P (sym (append-nil (front ps i j)) ∙ ap (λ q. front ps i j ++ q) (sym (rest_end ps i j l)) ∙ front_rest ps i j) p.before

  pub set_pushed : (ps : List (List (List ℕ × X))) (i : ℕ) (e : List ℕ × X) → suc i ≡ length ps → all (slice_set ps i (page ps i ++ e ∷ [])) ≡ all ps ++ e ∷ []
  set_pushed [] i e l = absurd (omega arith)
  set_pushed (p ∷ []) zero e l = append-nil (p ++ e ∷ []) ∙ ap (λ q. q ++ e ∷ []) (sym (append-nil p))
  set_pushed (p ∷ q ∷ ps) zero e l = absurd (omega arith)
  set_pushed (p ∷ ps) (suc i) e l = ap (λ q. p ++ q) (set_pushed ps i e (omega arith)) ∙ sym (append_assoc p (all ps) (e ∷ []))

  pub all_pushed : (ps : List (List (List ℕ × X))) (q : List (List ℕ × X)) → all (ps ++ q ∷ []) ≡ all ps ++ q
  all_pushed [] q = append-nil q
  all_pushed (p ∷ ps) q = ap (λ r. p ++ r) (all_pushed ps q) ∙ sym (append_assoc p (all ps) q)

  full_pushed : (ps : List (List (List ℕ × X))) (q : List (List ℕ × X)) → NoneEmpty ps → 0 < length q → NoneEmpty (ps ++ q ∷ [])
  full_pushed [] q n l = (l, tt)
  full_pushed (p ∷ ps) q n l = (n.0, full_pushed ps q n.1 l)

  short_pushed : (n : ℕ) (ps : List (List (List ℕ × X))) (q : List (List ℕ × X)) → NoneLonger n ps → length q ≤ n → NoneLonger n (ps ++ q ∷ [])
  short_pushed n [] q h l = (l, tt)
  short_pushed n (p ∷ ps) q h l = (h.0, short_pushed n ps q h.1 l)

  sorted_pushed : (k : List ℕ) (v : X) (es : List (List ℕ × X)) → T (is_sorted key_cmp es) → AllBefore k es → T (is_sorted key_cmp (es ++ (k, v) ∷ []))
  sorted_pushed k v es s a = let P : List (List ℕ × X) → Type 0 = λ q. T (is_sorted key_cmp q) in sorted_inserted k v es [] (subst P (sym (append-nil es)) s) a tt

  pub well_page : (ps qs : List (List (List ℕ × X))) (k : List ℕ) (v : X) → qs ≡ ps ++ ((k, v) ∷ []) ∷ [] → IsWell ps → AllBefore k (all ps) → IsWell qs
  well_page ps qs k v e w a =
      let P : List (List (List ℕ × X)) → Type 0 = λ q. IsWell q in
      let Q : List (List ℕ × X) → Type 0 = λ q. T (is_sorted key_cmp q) in
      subst P (sym e) (record { sorted = subst Q (sym (all_pushed ps ((k, v) ∷ []))) (sorted_pushed k v (all ps) w.sorted a); full = full_pushed ps ((k, v) ∷ []) w.full (omega arith); short = short_pushed page_limit ps ((k, v) ∷ []) w.short (omega arith) })

  pub well_pushed : (ps : List (List (List ℕ × X))) (i : ℕ) (k : List ℕ) (v : X) → suc i ≡ length ps → IsWell ps → AllBefore k (all ps) → length (page ps i) < page_limit → IsWell (slice_set ps i (page ps i ++ (k, v) ∷ []))
  well_pushed ps i k v l w a room =
      let Q : List (List ℕ × X) → Type 0 = λ q. T (is_sorted key_cmp q) in
      record {
        sorted = subst Q (sym (set_pushed ps i (k, v) l)) (sorted_pushed k v (all ps) w.sorted a);
        full = full_set ps i (page ps i ++ (k, v) ∷ []) w.full (omega (arith, length-append (page ps i) ((k, v) ∷ [])));
        short = short_set page_limit ps i (page ps i ++ (k, v) ∷ []) w.short (omega (arith, length-append (page ps i) ((k, v) ∷ []), room));
      }

  pub insert_end : (p : List (List ℕ × X)) (j : ℕ) (e : List ℕ × X) → j ≡ length p → insert p j e ≡ p ++ e ∷ []
  insert_end p j e is = ap (λ q. q ++ e ∷ drop j p) (take_all j p (omega (arith, is))) ∙ ap (λ q. p ++ e ∷ q) (dropped p j (omega (arith, is)))
    where
      dropped : (p : List (List ℕ × X)) (j : ℕ) → length p ≤ j → drop j p ≡ []
      dropped [] zero l = refl
      dropped [] (suc j) l = refl
      dropped (x ∷ xs) zero l = absurd (omega arith)
      dropped (x ∷ xs) (suc j) l = dropped xs j (omega arith)

  pub inserts_end : (e : List ℕ × X) (es fs : List (List ℕ × X)) → fs ≡ es ++ e ∷ [] → Inserts e es fs
  inserts_end e es fs h = record { left = es; right = []; old = sym (append-nil es); new = h }

  -- ---- a page in two

  split_all : (ps : List (List (List ℕ × X))) (i : ℕ) (lower upper : List (List ℕ × X)) → i < length ps → lower ++ upper ≡ page ps i → all (insert (slice_set ps i lower) (suc i) upper) ≡ all ps
  split_all [] i lower upper l h = absurd (omega arith)
  split_all (p ∷ ps) zero lower upper l h = sym (append_assoc lower upper (all ps)) ∙ ap (λ q. q ++ all ps) h
  split_all (p ∷ ps) (suc i) lower upper l h = ap (λ q. p ++ q) (split_all ps i lower upper (omega arith) h)

  split_full : (ps : List (List (List ℕ × X))) (i : ℕ) (lower upper : List (List ℕ × X)) → NoneEmpty ps → 0 < length lower → 0 < length upper → NoneEmpty (insert (slice_set ps i lower) (suc i) upper)
  split_full [] i lower upper n a b = (b, tt)
  split_full (p ∷ ps) zero lower upper n a b = (a, (b, n.1))
  split_full (p ∷ ps) (suc i) lower upper n a b = (n.0, split_full ps i lower upper n.1 a b)

  split_short : (n : ℕ) (ps : List (List (List ℕ × X))) (i : ℕ) (lower upper : List (List ℕ × X)) → NoneLonger n ps → length lower ≤ n → length upper ≤ n → NoneLonger n (insert (slice_set ps i lower) (suc i) upper)
  split_short n [] i lower upper h a b = (b, tt)
  split_short n (p ∷ ps) zero lower upper h a b = (a, (b, h.1))
  split_short n (p ∷ ps) (suc i) lower upper h a b = (h.0, split_short n ps i lower upper h.1 a b)

  pub halved_all : (i : ℕ) (upper : List (List ℕ × X)) (old new qs : List (List (List ℕ × X))) → i < length old → IsHalved i upper old new → qs ≡ insert new (i + 1) upper → all qs ≡ all old
  halved_all i upper old new qs l h e =
      ap all (e ∙ ap (λ n. insert new n upper) (add-one i) ∙ ap (λ ps. insert ps (suc i) upper) h.set)
      ∙ split_all old i (page new i) upper l h.whole

  pub halved_well : (i : ℕ) (upper : List (List ℕ × X)) (old new qs : List (List (List ℕ × X))) → IsWell old → i < length old → IsHalved i upper old new → qs ≡ insert new (i + 1) upper → IsWell qs
  halved_well i upper old new qs w l h e =
      let P : List (List ℕ × X) → Type 0 = λ q. T (is_sorted key_cmp q) in
      let Q : List (List (List ℕ × X)) → Type 0 = λ q. NoneEmpty q in
      let S : List (List (List ℕ × X)) → Type 0 = λ q. NoneLonger page_limit q in
      let whole : length (page new i ++ upper) ≡ length (page old i) = ap length h.whole in
      let parts = length-append (page new i) upper in
      let most = page_short page_limit old i w.short in
      record {
        sorted = subst P (sym (halved_all i upper old new qs l h e)) w.sorted;
        full = subst Q (sym (e ∙ ap (λ n. insert new n upper) (add-one i) ∙ ap (λ ps. insert ps (suc i) upper) h.set)) (split_full old i (page new i) upper w.full h.lower_some h.upper_some);
        short = subst S (sym (e ∙ ap (λ n. insert new n upper) (add-one i) ∙ ap (λ ps. insert ps (suc i) upper) h.set)) (split_short page_limit old i (page new i) upper w.short (omega (arith, whole, parts, most)) (omega (arith, whole, parts, most)));
      }

  pub halved : (i n : ℕ) (lower upper : List (List ℕ × X)) (old : List (List (List ℕ × X))) → i < length old → lower ≡ take n (page old i) → upper ≡ drop n (page old i) → 0 < n → n < length (page old i) → IsHalved i upper old (slice_set old i lower)
  halved i n lower upper old l a b low high =
      let is : page (slice_set old i lower) i ≡ lower = set_page old i lower l in
      let P : List (List ℕ × X) → Type 0 = λ q. 0 < length q in
      record {
        set = ap (slice_set old i) (sym is);
        whole = ap (λ q. q ++ upper) (is ∙ a) ∙ ap (λ q. take n (page old i) ++ q) b ∙ take-append-drop n (page old i);
        lower_some = subst P (sym (is ∙ a)) (omega (arith, length-take n (page old i)));
        upper_some = subst P (sym b) (omega (arith, length-drop n (page old i)));
      }

  -- ---- after a call that may have failed

  set_same : (ps : List (List (List ℕ × X))) (i : ℕ) → slice_set ps i (page ps i) ≡ ps
  set_same [] i = refl
  set_same (p ∷ ps) zero = refl
  set_same (p ∷ ps) (suc i) = ap (λ q. p ∷ q) (set_same ps i)

  module _ {R E : Type 0} where
    pub well_after : (res : Result R E) (ps : List (List (List ℕ × X))) (i j : ℕ) (k : List ℕ) (v : X) (found new : List (List ℕ × X)) → page ps i ≡ found → IsWell ps → IsPlace k ps i j → i < length ps → at_key (all ps) k ≡ None → length (page ps i) < page_limit
        → OnOk res (new ≡ insert found j (k, v)) → OnErr res (new ≡ found) → IsWell (slice_set ps i new)
    well_after (Ok r) ps i j k v found new is w p l none room ok err =
        let P : List (List ℕ × X) → Type 0 = λ q. IsWell (slice_set ps i q) in subst P (ap (λ q. insert q j (k, v)) is ∙ sym ok) (well_inserted ps i j k v w p l none room)
    well_after (Err e) ps i j k v found new is w p l none room ok err =
        let P : List (List (List ℕ × X)) → Type 0 = λ q. IsWell q in subst P (sym (set_same ps i) ∙ ap (slice_set ps i) (is ∙ sym err)) w

    pub inserts_after : (res : Result R E) (ps : List (List (List ℕ × X))) (i j : ℕ) (e : List ℕ × X) (found new : List (List ℕ × X)) → page ps i ≡ found → i < length ps → OnOk res (new ≡ insert found j e) → OnOk res (Inserts e (all ps) (all (slice_set ps i new)))
    inserts_after (Ok r) ps i j e found new is l ok =
        let P : List (List ℕ × X) → Type 0 = λ q. Inserts e (all ps) (all (slice_set ps i q)) in subst P (ap (λ q. insert q j e) is ∙ sym ok) (inserts_at ps i j e l)
    inserts_after (Err x) ps i j e found new is l ok = tt

    pub well_end : (res : Result R E) (ps : List (List (List ℕ × X))) (i j : ℕ) (k : List ℕ) (v : X) (found new : List (List ℕ × X)) → page ps i ≡ found → suc i ≡ length ps → j ≡ length found → IsWell ps → AllBefore k (all ps) → length (page ps i) < page_limit
        → OnOk res (new ≡ insert found j (k, v)) → OnErr res (new ≡ found) → IsWell (slice_set ps i new)
    well_end (Ok r) ps i j k v found new is l m w a room ok err =
        let P : List (List ℕ × X) → Type 0 = λ q. IsWell (slice_set ps i q) in
        subst P (ap (λ q. q ++ (k, v) ∷ []) is ∙ sym (ok ∙ insert_end found j (k, v) m)) (well_pushed ps i k v l w a room)
    well_end (Err e) ps i j k v found new is l m w a room ok err =
        let P : List (List (List ℕ × X)) → Type 0 = λ q. IsWell q in subst P (sym (set_same ps i) ∙ ap (slice_set ps i) (is ∙ sym err)) w

    pub pushed_end : (res : Result R E) (ps : List (List (List ℕ × X))) (i j : ℕ) (e : List ℕ × X) (found new : List (List ℕ × X)) → page ps i ≡ found → suc i ≡ length ps → j ≡ length found → OnOk res (new ≡ insert found j e) → OnOk res (all (slice_set ps i new) ≡ all ps ++ e ∷ [])
    pushed_end (Ok r) ps i j e found new is l m ok = ap (λ q. all (slice_set ps i q)) (ok ∙ insert_end found j e m ∙ ap (λ q. q ++ e ∷ []) (sym is)) ∙ set_pushed ps i e l
    pushed_end (Err x) ps i j e found new is l m ok = tt

    pub err_end : (res : Result R E) (ps : List (List (List ℕ × X))) (i : ℕ) (found new : List (List ℕ × X)) → page ps i ≡ found → OnErr res (new ≡ found) → OnErr res (all (slice_set ps i new) ≡ all ps)
    err_end (Ok r) ps i found new is err = tt
    err_end (Err e) ps i found new is err = ap (λ q. all (slice_set ps i q)) (err ∙ sym is) ∙ ap all (set_same ps i)

    pub page_pushed : (res : Result R E) (ps qs : List (List (List ℕ × X))) (q : List (List ℕ × X)) (e : List ℕ × X) → q ≡ e ∷ [] → OnOk res (qs ≡ ps ++ q ∷ []) → OnOk res (all qs ≡ all ps ++ e ∷ [])
    page_pushed (Ok r) ps qs q e is ok = ap all ok ∙ all_pushed ps q ∙ ap (λ r. all ps ++ r) is
    page_pushed (Err x) ps qs q e is ok = tt

    pub page_well : (res : Result R E) (ps qs : List (List (List ℕ × X))) (q : List (List ℕ × X)) (k : List ℕ) (v : X) → q ≡ (k, v) ∷ [] → IsWell ps → AllBefore k (all ps) → OnOk res (qs ≡ ps ++ q ∷ []) → OnErr res (qs ≡ ps) → IsWell qs
    page_well (Ok r) ps qs q k v is w a ok err = well_page ps qs k v (ok ∙ ap (λ r. ps ++ r ∷ []) is) w a
    page_well (Err x) ps qs q k v is w a ok err = let P : List (List (List ℕ × X)) → Type 0 = λ q. IsWell q in subst P (sym err) w

  pub halved_ok : {E : Type 0} (res : Result (List (List ℕ × X)) E) (i n : ℕ) (found new : List (List ℕ × X)) (ps : List (List (List ℕ × X))) → page ps i ≡ found → i < length ps → 0 < n → n < length found
      → IfOk res (λ p. (new ≡ take n found) × (p ≡ drop n found)) → IfOk res (λ p. IsHalved i p ps (slice_set ps i new))
  halved_ok (Ok p) i n found new ps is l low high h =
      let P : List (List ℕ × X) → Type 0 = λ q. n < length q in
      halved i n new p ps l (h.0 ∙ ap (take n) (sym is)) (h.1 ∙ ap (drop n) (sym is)) low (subst P (sym is) high)
  halved_ok (Err e) i n found new ps is l low high h = tt
