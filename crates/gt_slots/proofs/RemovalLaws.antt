-- Pages without an entry.
use Rattle.std.proofs.Common.{◌≡◌, ◌≢◌, ℕ, zero, suc, ◌<◌, ◌≤◌, Bool, true, false, cond, T, List, [], ◌∷◌, ◌++◌, length, take, drop, slice_index_or, slice_set, None, refl, sym, ap, ◌∙◌, subst, arith, append_assoc, length-append}
use Rattle.std.proofs.lemmas.List.{length-drop, length-take}
use Rattle.std.specs.List.{remove}
use Rattle.std.specs.Ordering.{is_lt, eq_by_cmp}
use Rattle.std.specs.FinMap.{is_sorted}
use Rattle.std.specs.FinMap.Entries.{below_all}
use Rattle.gt_model.specs.Contents.{key_cmp}
use Rattle.gt_versions.proofs.Keys.{at_key, at_key-same, flip}
use Rattle.gt_slots.specs.Pages.{all, page_limit, AllBefore, NoneEmpty, NoneLonger, IsWell, page, front, Inserts}
use Rattle.gt_slots.proofs.SortLaws.{both, front_of, back_of, sorted_right, look_past, none_above}
use Rattle.gt_slots.proofs.EditLaws.{full_set, short_set, page_short}
use Rattle.gt_slots.proofs.EntryLaws.{tail_at, all_at, others_by, some_entry}

true_of : (b : Bool) → T b → b ≡ true
true_of true h = refl
true_of false h = absurd h

module _ {X : Type 0} where
  -- ---- a list without an entry

  below_without : (k : List ℕ) (e : List ℕ × X) (xs ys : List (List ℕ × X)) → T (below_all key_cmp k (xs ++ e ∷ ys)) → T (below_all key_cmp k (xs ++ ys))
  below_without k e [] ys h = back_of (is_lt (key_cmp k e.0)) (below_all key_cmp k ys) h
  below_without k e (x ∷ xs) ys h =
      both (is_lt (key_cmp k x.0)) (below_all key_cmp k (xs ++ ys)) (front_of (is_lt (key_cmp k x.0)) (below_all key_cmp k (xs ++ e ∷ ys)) h)
      (below_without k e xs ys (back_of (is_lt (key_cmp k x.0)) (below_all key_cmp k (xs ++ e ∷ ys)) h))

  sorted_without : (e : List ℕ × X) (xs ys : List (List ℕ × X)) → T (is_sorted key_cmp (xs ++ e ∷ ys)) → T (is_sorted key_cmp (xs ++ ys))
  sorted_without e [] ys s = back_of (below_all key_cmp e.0 ys) (is_sorted key_cmp ys) s
  sorted_without e (x ∷ xs) ys s =
      both (below_all key_cmp x.0 (xs ++ ys)) (is_sorted key_cmp (xs ++ ys)) (below_without x.0 e xs ys (front_of (below_all key_cmp x.0 (xs ++ e ∷ ys)) (is_sorted key_cmp (xs ++ e ∷ ys)) s))
      (sorted_without e xs ys (back_of (below_all key_cmp x.0 (xs ++ e ∷ ys)) (is_sorted key_cmp (xs ++ e ∷ ys)) s))

  below_at : (k : List ℕ) (e : List ℕ × X) (xs ys : List (List ℕ × X)) → T (below_all key_cmp k (xs ++ e ∷ ys)) → T (is_lt (key_cmp k e.0))
  below_at k e [] ys h = front_of (is_lt (key_cmp k e.0)) (below_all key_cmp k ys) h
  below_at k e (x ∷ xs) ys h = below_at k e xs ys (back_of (is_lt (key_cmp k x.0)) (below_all key_cmp k (xs ++ e ∷ ys)) h)

  before_it : (e : List ℕ × X) (xs ys : List (List ℕ × X)) → T (is_sorted key_cmp (xs ++ e ∷ ys)) → AllBefore e.0 xs
  before_it e [] ys s = tt
  before_it e (x ∷ xs) ys s = (
    true_of (is_lt (key_cmp x.0 e.0)) (below_at x.0 e xs ys (front_of (below_all key_cmp x.0 (xs ++ e ∷ ys)) (is_sorted key_cmp (xs ++ e ∷ ys)) s)),
    before_it e xs ys (back_of (below_all key_cmp x.0 (xs ++ e ∷ ys)) (is_sorted key_cmp (xs ++ e ∷ ys)) s),
  )

  none_left : (e : List ℕ × X) (xs ys : List (List ℕ × X)) → T (is_sorted key_cmp (xs ++ e ∷ ys)) → at_key (xs ++ ys) e.0 ≡ None
  none_left e xs ys s =
      look_past e.0 xs ys (before_it e xs ys s)
      ∙ none_above e.0 ys (front_of (below_all key_cmp e.0 ys) (is_sorted key_cmp ys) (sorted_right xs (e ∷ ys) s))

  without : (e : List ℕ × X) (xs ys : List (List ℕ × X)) → T (is_sorted key_cmp (xs ++ e ∷ ys)) → (x : List ℕ) → at_key (xs ++ ys) x ≡ cond (eq_by_cmp key_cmp e.0 x) None (at_key (xs ++ e ∷ ys) x)
  without e xs ys s x = by (eq_by_cmp key_cmp e.0 x) refl
    where
      by : (b : Bool) → eq_by_cmp key_cmp e.0 x ≡ b → at_key (xs ++ ys) x ≡ cond b None (at_key (xs ++ e ∷ ys) x)
      by true t = at_key-same (xs ++ ys) e.0 x t ∙ none_left e xs ys s
      by false t = sym (others_by x e xs ys (flip x e.0 ∙ t))

  removed_sorted : (e : List ℕ × X) (es fs : List (List ℕ × X)) → Inserts e es fs → T (is_sorted key_cmp fs) → T (is_sorted key_cmp es)
  removed_sorted e es fs i s =
      let P : List (List ℕ × X) → Type 0 = λ l. T (is_sorted key_cmp l) in
      subst P (sym i.old) (sorted_without e i.left i.right (subst P i.new s))

  pub removed_at : (t x : List ℕ) (e : List ℕ × X) (es fs : List (List ℕ × X)) → e.0 ≡ t → Inserts e es fs → T (is_sorted key_cmp fs) → at_key es x ≡ cond (eq_by_cmp key_cmp t x) None (at_key fs x)
  removed_at t x e es fs is i s =
      let P : List (List ℕ × X) → Type 0 = λ l. T (is_sorted key_cmp l) in
      ap (λ l. at_key l x) i.old
      ∙ without e i.left i.right (subst P i.new s) x
      ∙ ap (λ l. cond (eq_by_cmp key_cmp e.0 x) None (at_key l x)) (sym i.new)
      ∙ ap (λ k. cond (eq_by_cmp key_cmp k x) None (at_key fs x)) is

  pub removed_none : (t x : List ℕ) (es : List (List ℕ × X)) → at_key es t ≡ None → at_key es x ≡ cond (eq_by_cmp key_cmp t x) None (at_key es x)
  removed_none t x es none = by (eq_by_cmp key_cmp t x) refl
    where
      by : (b : Bool) → eq_by_cmp key_cmp t x ≡ b → at_key es x ≡ cond b None (at_key es x)
      by true h = at_key-same es t x h ∙ none
      by false h = refl

  -- ---- pages without an entry

  all_without : (ps : List (List (List ℕ × X))) (i j : ℕ) → i < length ps → all (slice_set ps i (remove (page ps i) j)) ≡ front ps i j ++ tail_at ps i j
  all_without [] i j l = absurd (omega arith)
  all_without (p ∷ ps) zero j l = append_assoc (take j p) (drop (suc j) p) (all ps)
  all_without (p ∷ ps) (suc i) j l = ap (λ q. p ++ q) (all_without ps i j (omega arith)) ∙ sym (append_assoc p (front ps i j) (tail_at ps i j))

  all_but : (ps : List (List (List ℕ × X))) (i j : ℕ) → i < length ps → j < length (page ps i) → length (page ps i) ≡ 1 → all (remove ps i) ≡ front ps i j ++ tail_at ps i j
  all_but [] i j l m n = absurd (omega arith)
  all_but ([] ∷ ps) zero j l m n = absurd (omega arith)
  all_but ((x ∷ []) ∷ ps) zero zero l m n = refl
  all_but ((x ∷ []) ∷ ps) zero (suc j) l m n = absurd (omega arith)
  all_but ((x ∷ y ∷ xs) ∷ ps) zero j l m n = absurd (omega arith)
  all_but (p ∷ ps) (suc i) j l m n = ap (λ q. p ++ q) (all_but ps i j (omega arith) m n) ∙ sym (append_assoc p (front ps i j) (tail_at ps i j))

  full_but : (ps : List (List (List ℕ × X))) (i : ℕ) → NoneEmpty ps → NoneEmpty (remove ps i)
  full_but [] zero n = tt
  full_but [] (suc i) n = tt
  full_but (p ∷ ps) zero n = n.1
  full_but (p ∷ ps) (suc i) n = (n.0, full_but ps i n.1)

  short_but : (n : ℕ) (ps : List (List (List ℕ × X))) (i : ℕ) → NoneLonger n ps → NoneLonger n (remove ps i)
  short_but n [] zero h = tt
  short_but n [] (suc i) h = tt
  short_but n (p ∷ ps) zero h = h.1
  short_but n (p ∷ ps) (suc i) h = (h.0, short_but n ps i h.1)

  module _ (ps qs : List (List (List ℕ × X))) (i j : ℕ) (w : IsWell ps) (l : i < length ps) (m : j < length (page ps i)) where
    inserts : all qs ≡ front ps i j ++ tail_at ps i j → (d : List ℕ × X) → Inserts (slice_index_or (page ps i) j d) (all qs) (all ps)
    inserts h d = record { left = front ps i j; right = tail_at ps i j; old = h; new = all_at ps i j d l m }

    well : all qs ≡ front ps i j ++ tail_at ps i j → NoneEmpty qs → NoneLonger page_limit qs → IsWell qs
    well h full short = record { sorted = removed_sorted (slice_index_or (page ps i) j (some_entry (page ps i) j m)) (all qs) (all ps) (inserts h (some_entry (page ps i) j m)) w.sorted; full = full; short = short }

    page_all : qs ≡ remove ps i → length (page ps i) ≡ 1 → all qs ≡ front ps i j ++ tail_at ps i j
    page_all h n = ap all h ∙ all_but ps i j l m n

    pub page_inserts : qs ≡ remove ps i → length (page ps i) ≡ 1 → (d : List ℕ × X) → Inserts (slice_index_or (page ps i) j d) (all qs) (all ps)
    page_inserts h n = inserts (page_all h n)

    pub page_well : qs ≡ remove ps i → length (page ps i) ≡ 1 → IsWell qs
    page_well h n =
        let P : List (List (List ℕ × X)) → Type 0 = λ rs. NoneEmpty rs in
        let S : List (List (List ℕ × X)) → Type 0 = λ rs. NoneLonger page_limit rs in
        well (page_all h n) (subst P (sym h) (full_but ps i w.full)) (subst S (sym h) (short_but page_limit ps i w.short))

    slot_all : qs ≡ slice_set ps i (remove (page ps i) j) → all qs ≡ front ps i j ++ tail_at ps i j
    slot_all h = ap all h ∙ all_without ps i j l

    pub slot_inserts : qs ≡ slice_set ps i (remove (page ps i) j) → (d : List ℕ × X) → Inserts (slice_index_or (page ps i) j d) (all qs) (all ps)
    slot_inserts h = inserts (slot_all h)

    pub slot_well : qs ≡ slice_set ps i (remove (page ps i) j) → length (page ps i) ≢ 1 → IsWell qs
    slot_well h n =
        let P : List (List (List ℕ × X)) → Type 0 = λ rs. NoneEmpty rs in
        let more : 0 < length (take j (page ps i) ++ drop (suc j) (page ps i)) = omega (arith, length-append (take j (page ps i)) (drop (suc j) (page ps i)), length-take j (page ps i), length-drop (suc j) (page ps i), m, n) in
        let S : List (List (List ℕ × X)) → Type 0 = λ rs. NoneLonger page_limit rs in
        let most = page_short page_limit ps i w.short in
        let less : length (take j (page ps i) ++ drop (suc j) (page ps i)) ≤ page_limit = omega (arith, length-append (take j (page ps i)) (drop (suc j) (page ps i)), length-take j (page ps i), length-drop (suc j) (page ps i), m, most) in
        well (slot_all h) (subst P (sym h) (full_set ps i (remove (page ps i) j) w.full more)) (subst S (sym h) (short_set page_limit ps i (remove (page ps i) j) w.short less))
