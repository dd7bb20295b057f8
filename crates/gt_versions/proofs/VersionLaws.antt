-- Laws of versions in ascending order.
use Rattle.std.proofs.Common.{◌≡◌, ℕ, suc, zero, ◌+◌, ◌<◌, ◌≤◌, Bool, true, false, cond, nat_le, nat_eq, List, [], ◌∷◌, ◌++◌, length, slice_index_or, Option, Some, None, refl, sym, ap, ◌∙◌, ◌-◌, arith}
use Rattle.std.specs.List.Sorted.{IsPartitionPoint}
use Rattle.std.proofs.lemmas.Bool.Decides.{nat_tests}
use Rattle.std.proofs.lemmas.List.{get_or_default}
use Rattle.gt_versions.specs.Ascending.{IsFrom, IsAscending}
use Rattle.gt_versions.specs.Versions.{last_at, IsUpTo, put_at, before, is_last}

module _ {V : Type 0} where
  -- none stands at or before the position
  pub none_found : (es : List (ℕ × V)) (p : ℕ) (found : Option (ℕ × V)) → ((k : ℕ) (d : ℕ × V) → 0 ≤ k → k < length es → nat_le (slice_index_or es k d).0 p ≡ false) → last_at es p found ≡ found
  none_found [] p found h = refl
  none_found (e ∷ es) p found h =
      ap (λ b. last_at es p (cond b (Some e) found)) (h 0 e (omega arith) (omega arith))
      ∙ none_found es p found (λ k d low high. h (suc k) d (omega arith) (omega arith))

  -- the last of the front part that stands at or before the position
  pub some_found : (es : List (ℕ × V)) (p m : ℕ) (d : ℕ × V) (found : Option (ℕ × V)) → m < length es → ((k : ℕ) (d : ℕ × V) → 0 ≤ k → k < suc m → nat_le (slice_index_or es k d).0 p ≡ true) → ((k : ℕ) (d : ℕ × V) → suc m ≤ k → k < length es → nat_le (slice_index_or es k d).0 p ≡ false) → last_at es p found ≡ Some (slice_index_or es m d)
  some_found [] p m d found l below above = absurd (omega arith)
  some_found (e ∷ es) p zero d found l below above =
      ap (λ b. last_at es p (cond b (Some e) found)) (below 0 e (omega arith) (omega arith))
      ∙ none_found es p (Some e) (λ k d low high. above (suc k) d (omega arith) (omega arith))
  some_found (e ∷ es) p (suc m) d found l below above =
      some_found es p m d (cond (nat_le e.0 p) (Some e) found) (omega arith) (λ k d low high. below (suc k) d (omega arith) (omega arith)) (λ k d low high. above (suc k) d (omega arith) (omega arith))

  from_at : (q : ℕ) (es : List (ℕ × V)) → IsFrom q es → (j : ℕ) (d : ℕ × V) → j < length es → q ≤ (slice_index_or es j d).0
  from_at q [] h j d l = absurd (omega arith)
  from_at q (e ∷ es) h zero d l = h.0
  from_at q (e ∷ es) h (suc j) d l = from_at q es h.1 j d (omega arith)

  pub partitioned : (es : List (ℕ × V)) (p : ℕ) → IsAscending es → (i j : ℕ) (d : ℕ × V) → i ≤ j → j < length es → nat_le (slice_index_or es j d).0 p ≡ true → nat_le (slice_index_or es i d).0 p ≡ true
  partitioned [] p h i j d le l t = absurd (omega arith)
  partitioned (e ∷ es) p h zero zero d le l t = t
  partitioned (e ∷ es) p h zero (suc j) d le l t = let low : e.0 ≤ (slice_index_or es j d).0 = from_at e.0 es h.0 j d (omega arith) in grind (arith, nat_tests)
  partitioned (e ∷ es) p h (suc i) zero d le l t = absurd (omega arith)
  partitioned (e ∷ es) p h (suc i) (suc j) d le l t = partitioned es p h.1 i j d (omega arith) (omega arith) t

  pub before-append : (q : ℕ) (xs : List (ℕ × V)) (e : ℕ × V) → before q (xs ++ e ∷ []) ≡ cond (nat_eq e.0 q) xs (xs ++ e ∷ [])
  before-append q [] e = refl
  before-append q (x ∷ []) e = elim (nat_eq e.0 q) as (λ b. x ∷ cond b [] (e ∷ []) ≡ cond b (x ∷ []) (x ∷ e ∷ [])) [ true ↦ refl | false ↦ refl ]
  before-append q (x ∷ y ∷ xs) e = ap (λ t. x ∷ t) (before-append q (y ∷ xs) e) ∙ (elim (nat_eq e.0 q) as (λ b. x ∷ cond b (y ∷ xs) (y ∷ xs ++ e ∷ []) ≡ cond b (x ∷ y ∷ xs) (x ∷ y ∷ xs ++ e ∷ [])) [ true ↦ refl | false ↦ refl ])

  pub is_last-append : (q : ℕ) (xs : List (ℕ × V)) (e : ℕ × V) → is_last q (xs ++ e ∷ []) ≡ nat_eq e.0 q
  is_last-append q [] e = refl
  is_last-append q (x ∷ []) e = refl
  is_last-append q (x ∷ y ∷ xs) e = is_last-append q (y ∷ xs) e

  upto-before : (q r : ℕ) (es : List (ℕ × V)) → IsUpTo r es → IsUpTo r (before q es)
  upto-before q r [] h = tt
  upto-before q r (e ∷ []) h = elim (nat_eq e.0 q) as (λ b. IsUpTo r (cond b [] (e ∷ []))) [ true ↦ tt | false ↦ h ]
  upto-before q r (e ∷ f ∷ es) h = (h.0, upto-before q r (f ∷ es) h.1)

  upto-append : (r : ℕ) (es : List (ℕ × V)) (e : ℕ × V) → IsUpTo r es → e.0 ≤ r → IsUpTo r (es ++ e ∷ [])
  upto-append r [] e h l = (l, tt)
  upto-append r (x ∷ es) e h l = (h.0, upto-append r es e h.1 l)

  pub upto-put : (q : ℕ) (v : V) (es : List (ℕ × V)) → IsUpTo q es → IsUpTo q (put_at q v es)
  upto-put q v es h = upto-append q (before q es) (q, v) (upto-before q q es h) (omega arith)

  from-append : (r : ℕ) (es : List (ℕ × V)) (e : ℕ × V) → IsFrom r es → r ≤ e.0 → IsFrom r (es ++ e ∷ [])
  from-append r [] e h l = (l, tt)
  from-append r (x ∷ es) e h l = (h.0, from-append r es e h.1 l)

  from-before : (q r : ℕ) (es : List (ℕ × V)) → IsFrom r es → IsFrom r (before q es)
  from-before q r [] h = tt
  from-before q r (e ∷ []) h = elim (nat_eq e.0 q) as (λ b. IsFrom r (cond b [] (e ∷ []))) [ true ↦ tt | false ↦ h ]
  from-before q r (e ∷ f ∷ es) h = (h.0, from-before q r (f ∷ es) h.1)

  ascending-before : (q : ℕ) (es : List (ℕ × V)) → IsAscending es → IsAscending (before q es)
  ascending-before q [] h = tt
  ascending-before q (e ∷ []) h = elim (nat_eq e.0 q) as (λ b. IsAscending (cond b [] (e ∷ []))) [ true ↦ tt | false ↦ h ]
  ascending-before q (e ∷ f ∷ es) h = (from-before q e.0 (f ∷ es) h.0, ascending-before q (f ∷ es) h.1)

  ascending-append : (es : List (ℕ × V)) (e : ℕ × V) → IsAscending es → IsUpTo e.0 es → IsAscending (es ++ e ∷ [])
  ascending-append [] e h u = (tt, tt)
  ascending-append (x ∷ es) e h u = (from-append x.0 es e h.0 u.0, ascending-append es e h.1 u.1)

  pub ascending-put : (q : ℕ) (v : V) (es : List (ℕ × V)) → IsAscending es → IsUpTo q es → IsAscending (put_at q v es)
  ascending-put q v es h u = ascending-append (before q es) (q, v) (ascending-before q es h) (upto-before q q es u)

  last_at-append : (es : List (ℕ × V)) (e : ℕ × V) (p : ℕ) (found : Option (ℕ × V)) → last_at (es ++ e ∷ []) p found ≡ cond (nat_le e.0 p) (Some e) (last_at es p found)
  last_at-append [] e p found = refl
  last_at-append (x ∷ es) e p found = last_at-append es e p (cond (nat_le x.0 p) (Some x) found)

  last_at-before : (q : ℕ) (es : List (ℕ × V)) (p : ℕ) (found : Option (ℕ × V)) → nat_le q p ≡ false → last_at (before q es) p found ≡ last_at es p found
  last_at-before q [] p found h = refl
  last_at-before q (e ∷ []) p found h = same_last (nat_eq e.0 q) refl
    where
      same_last : (b : Bool) → nat_eq e.0 q ≡ b → last_at (cond b [] (e ∷ [])) p found ≡ cond (nat_le e.0 p) (Some e) found
      same_last true t = let off : nat_le e.0 p ≡ false = grind (arith, nat_tests) in sym (ap (λ b. cond b (Some e) found) off)
      same_last false t = refl
  last_at-before q (e ∷ f ∷ es) p found h = last_at-before q (f ∷ es) p (cond (nat_le e.0 p) (Some e) found) h

  pub last_at-put : (q : ℕ) (v : V) (es : List (ℕ × V)) (p : ℕ) (found : Option (ℕ × V)) → last_at (put_at q v es) p found ≡ cond (nat_le q p) (Some (q, v)) (last_at es p found)
  last_at-put q v es p found = last_at-append (before q es) (q, v) p found ∙ earlier (nat_le q p) refl
    where
      earlier : (b : Bool) → nat_le q p ≡ b → cond b (Some (q, v)) (last_at (before q es) p found) ≡ cond b (Some (q, v)) (last_at es p found)
      earlier true t = refl
      earlier false t = last_at-before q es p found t

  pub put_later : (q p : ℕ) (v : V) (es : List (ℕ × V)) → q ≤ p → last_at (put_at q v es) p None ≡ Some (q, v)
  put_later q p v es l = last_at-put q v es p None ∙ (let on : nat_le q p ≡ true = grind (arith, nat_tests) in ap (λ b. cond b (Some (q, v)) (last_at es p None)) on)

  pub put_earlier : (q p : ℕ) (v : V) (es : List (ℕ × V)) → p < q → last_at (put_at q v es) p None ≡ last_at es p None
  put_earlier q p v es l = last_at-put q v es p None ∙ (let off : nat_le q p ≡ false = grind (arith, nat_tests) in ap (λ b. cond b (Some (q, v)) (last_at es p None)) off)

  pub is_last-put : (q : ℕ) (v : V) (es : List (ℕ × V)) → is_last q (put_at q v es) ≡ true
  is_last-put q v es = is_last-append q (before q es) (q, v) ∙ grind (arith, nat_tests)

  pub upto_more : (q r : ℕ) (es : List (ℕ × V)) → q ≤ r → IsUpTo q es → IsUpTo r es
  upto_more q r [] l h = tt
  upto_more q r (e ∷ es) l h = let a : e.0 ≤ q = h.0 in (omega arith, upto_more q r es l h.1)

  -- past the newest nothing changes
  pub last_at-past : (q p : ℕ) (es : List (ℕ × V)) (found : Option (ℕ × V)) → q ≤ p → IsUpTo q es → last_at es p found ≡ last_at es q found
  last_at-past q p [] found l h = refl
  last_at-past q p (e ∷ es) found l h =
      let a : e.0 ≤ q = h.0 in
      let x : nat_le e.0 p ≡ true = grind (arith, nat_tests) in
      let y : nat_le e.0 q ≡ true = grind (arith, nat_tests) in
      ap (λ b. last_at es p (cond b (Some e) found)) (x ∙ sym y) ∙ last_at-past q p es (cond (nat_le e.0 q) (Some e) found) l h.1

  module _ (xs es : List (ℕ × V)) (p n : ℕ) (same : xs ≡ es) (parts : IsPartitionPoint (λ (e : ℕ × V). nat_le e.0 p ≡ true) (λ (e : ℕ × V). nat_le e.0 p ≡ false) xs n) where
    pub at_none : n ≡ 0 → None ≡ last_at es p None
    at_none z = sym (ap (λ l. last_at l p None) (sym same) ∙ none_found xs p None (λ k d low high. parts.1 k d (omega arith) high))

    pub at_some : (n ≡ 0 → ⊥) → n ≤ length xs → (e : ℕ × V) → e ≡ slice_index_or xs (n - 1) e → Some e ≡ last_at es p None
    at_some some l e is =
        ap Some is
        ∙ sym (ap (λ l. last_at l p None) (sym same) ∙ some_found xs p (n - 1) e None (omega arith) (λ k d low high. parts.0 k d low (omega arith)) (λ k d low high. parts.1 k d (omega arith) high))

  -- one half of a search
  pub low_half : (es : List (ℕ × V)) (p m : ℕ) (d : ℕ × V) → IsAscending es → m < length es → (slice_index_or es m d).0 ≤ p → (k : ℕ) (d' : ℕ × V) → 0 ≤ k → k < m + 1 → nat_le (slice_index_or es k d').0 p ≡ true
  low_half es p m d asc l h k d' low high =
      let same = ap (λ (x : ℕ × V). x.0) (get_or_default es m d' d l) in
      let here : (slice_index_or es m d').0 ≤ p = omega arith in
      partitioned es p asc k m d' (omega arith) l (grind (arith, nat_tests))

  pub high_half : (es : List (ℕ × V)) (p m : ℕ) (d : ℕ × V) → IsAscending es → m < length es → p < (slice_index_or es m d).0 → (k : ℕ) (d' : ℕ × V) → m ≤ k → k < length es → nat_le (slice_index_or es k d').0 p ≡ false
  high_half es p m d asc l h k d' low high = past (nat_le (slice_index_or es k d').0 p) refl
    where
      past : (b : Bool) → nat_le (slice_index_or es k d').0 p ≡ b → b ≡ false
      past true t =
          let t2 : nat_le (slice_index_or es m d').0 p ≡ true = partitioned es p asc m k d' low high t in
          let same = ap (λ (x : ℕ × V). x.0) (get_or_default es m d' d l) in
          let here : p < (slice_index_or es m d').0 = omega arith in
          grind (arith, nat_tests)
      past false t = refl

  pub kept_last : (q : ℕ) (old xs new : List (ℕ × V)) (e : ℕ × V) → old ≡ xs ++ e ∷ [] → new ≡ xs ++ e ∷ [] → (e.0 ≡ q → ⊥) → new ≡ before q old
  kept_last q old xs new e a b n = let off : nat_eq e.0 q ≡ false = grind (arith, nat_tests) in b ∙ sym (ap (before q) a ∙ before-append q xs e ∙ ap (λ t. cond t xs (xs ++ e ∷ [])) off)

  pub taken_last : (q : ℕ) (old xs : List (ℕ × V)) (e : ℕ × V) → old ≡ xs ++ e ∷ [] → e.0 ≡ q → xs ≡ before q old
  taken_last q old xs e a n = let on : nat_eq e.0 q ≡ true = grind (arith, nat_tests) in sym (ap (before q) a ∙ before-append q xs e ∙ ap (λ t. cond t xs (xs ++ e ∷ [])) on)

  pub not_last : (q : ℕ) (old xs : List (ℕ × V)) (e : ℕ × V) → old ≡ xs ++ e ∷ [] → (e.0 ≡ q → ⊥) → is_last q old ≡ false
  not_last q old xs e a n = let off : nat_eq e.0 q ≡ false = grind (arith, nat_tests) in ap (is_last q) a ∙ is_last-append q xs e ∙ off
