-- A place in pages.
use Rattle.std.proofs.Common.{◌≡◌, ℕ, zero, suc, ◌-◌, ◌<◌, ◌≤◌, Bool, true, false, T, List, [], ◌∷◌, ◌++◌, length, take, drop, drop-cons, slice_index_or, slice_get, Some, None, nat_lt, refl, sym, ap, ◌∙◌, subst, arith, append_assoc}
use Rattle.std.proofs.lemmas.List.{take-append-drop, take_all}
use Rattle.std.proofs.lemmas.Bool.Decides.{nat_tests}
use Rattle.std.specs.FinMap.{is_sorted}
use Rattle.std.specs.List.Sorted.{IsPartitionPoint}
use Rattle.gt_model.specs.Contents.{key_cmp}
use Rattle.gt_slots.specs.Pages.{is_before, all, AllBefore, NoneBefore, ends_before, IsWell, page, front, rest, IsPlace}
use Rattle.gt_slots.proofs.SortLaws.{sorted_left, sorted_right, before-append, all_before, ends_all, none_before}

module _ {X : Type 0} where
  pub front_rest : (ps : List (List (List ℕ × X))) (i j : ℕ) → front ps i j ++ rest ps i j ≡ all ps
  front_rest [] i j = refl
  front_rest (p ∷ ps) zero j = sym (append_assoc (take j p) (drop j p) (all ps)) ∙ ap (λ q. q ++ all ps) (take-append-drop j p)
  front_rest (p ∷ ps) (suc i) j = append_assoc p (front ps i j) (rest ps i j) ∙ ap (λ q. p ++ q) (front_rest ps i j)

  front_before : (t : List ℕ) (ps : List (List (List ℕ × X))) (i j : ℕ) → T (is_sorted key_cmp (all ps)) → ((k : ℕ) (d : List (List ℕ × X)) → k < i → k < length ps → ends_before t (slice_index_or ps k d) ≡ true) → AllBefore t (take j (page ps i)) → AllBefore t (front ps i j)
  front_before t [] i j s e h = tt
  front_before t (p ∷ ps) zero j s e h = h
  front_before t (p ∷ ps) (suc i) j s e h = before-append t p (front ps i j) (all_before t p (sorted_left p (all ps) s) (e 0 p (omega arith) (omega arith))) (front_before t ps i j (sorted_right p (all ps) s) (λ k d l m. e (suc k) d (omega arith) (omega arith)) h)

  sorted_rest : (p zs : List (List ℕ × X)) (j : ℕ) → T (is_sorted key_cmp (p ++ zs)) → T (is_sorted key_cmp (drop j p ++ zs))
  sorted_rest p zs j s =
      let P : List (List ℕ × X) → Type 0 = λ q. T (is_sorted key_cmp q) in
      sorted_right (take j p) (drop j p ++ zs) (subst P (sym (sym (append_assoc (take j p) (drop j p) zs) ∙ ap (λ q. q ++ zs) (take-append-drop j p))) s)

  rest_after : (t : List ℕ) (ps : List (List (List ℕ × X))) (i j : ℕ) (x : List ℕ × X) (xs : List (List ℕ × X)) → T (is_sorted key_cmp (all ps)) → drop j (page ps i) ≡ x ∷ xs → is_before x.0 t ≡ false → NoneBefore t (rest ps i j)
  rest_after t [] i j x xs s e h = tt
  rest_after t (p ∷ ps) zero j x xs s e h =
      let P : List (List ℕ × X) → Type 0 = λ q. T (is_sorted key_cmp (q ++ all ps)) in
      let Q : List (List ℕ × X) → Type 0 = λ q. NoneBefore t (q ++ all ps) in
      subst Q (sym e) (none_before t x (xs ++ all ps) (subst P e (sorted_rest p (all ps) j s)) h)
  rest_after t (p ∷ ps) (suc i) j x xs s e h = rest_after t ps i j x xs (sorted_right p (all ps) s) e h

  take_before : (t : List ℕ) (p : List (List ℕ × X)) (j : ℕ) → ((k : ℕ) (d : List ℕ × X) → k < j → k < length p → is_before (slice_index_or p k d).0 t ≡ true) → AllBefore t (take j p)
  take_before t [] zero h = tt
  take_before t [] (suc j) h = tt
  take_before t (e ∷ es) zero h = tt
  take_before t (e ∷ es) (suc j) h = (h 0 e (omega arith) (omega arith), take_before t es j (λ k d l m. h (suc k) d (omega arith) (omega arith)))

  pub rest_end : (ps : List (List (List ℕ × X))) (i j : ℕ) → length ps ≤ i → rest ps i j ≡ []
  rest_end [] i j l = refl
  rest_end (p ∷ ps) zero j l = absurd (omega arith)
  rest_end (p ∷ ps) (suc i) j l = rest_end ps i j (omega arith)

  pub page_end : (ps : List (List (List ℕ × X))) (i : ℕ) → length ps ≤ i → page ps i ≡ []
  page_end [] i l = refl
  page_end (p ∷ ps) zero l = absurd (omega arith)
  page_end (p ∷ ps) (suc i) l = page_end ps i (omega arith)

  pub page_at : (ps : List (List (List ℕ × X))) (i : ℕ) (d : List (List ℕ × X)) → i < length ps → page ps i ≡ slice_index_or ps i d
  page_at [] i d l = absurd (omega arith)
  page_at (p ∷ ps) zero d l = refl
  page_at (p ∷ ps) (suc i) d l = page_at ps i d (omega arith)

  -- behind the last page
  pub place_end : (t : List ℕ) (ps : List (List (List ℕ × X))) (i : ℕ) → IsWell ps → i ≤ length ps → length ps ≤ i
      → IsPartitionPoint (λ (p : List (List ℕ × X)). ends_before t p ≡ true) (λ (p : List (List ℕ × X)). ends_before t p ≡ false) ps i → IsPlace t ps i 0
  place_end t ps i w l m parts = record {
    fits = l;
    lands = λ h. absurd (omega arith);
    before = front_before t ps i 0 w.sorted (λ k d a b. parts.0 k d (omega arith) a) (let P : List (List ℕ × X) → Type 0 = λ q. AllBefore t (take 0 q) in subst P (sym (page_end ps i m)) tt);
    after = let P : List (List ℕ × X) → Type 0 = λ q. NoneBefore t q in subst P (sym (rest_end ps i 0 m)) tt;
  }

  -- at a reference of a page
  lands_in : (t : List ℕ) (p : List (List ℕ × X)) (j : ℕ) → ends_before t p ≡ false → j ≤ length p → AllBefore t (take j p) → j < length p
  lands_in t p j e l h = by_case (nat_lt j (length p)) refl
    where
      whole : j ≡ length p → ⊥
      whole is =
          let P : List (List ℕ × X) → Type 0 = λ q. AllBefore t q in
          let yes : ends_before t p ≡ true = ends_all t p (subst P (take_all j p (omega arith)) h) in
          cc

      by_case : (b : Bool) → nat_lt j (length p) ≡ b → j < length p
      by_case true q = grind (arith, nat_tests)
      by_case false q = absurd (whole (grind (arith, nat_tests)))

  pub place_in : (t : List ℕ) (ps : List (List (List ℕ × X))) (i j : ℕ) (p : List (List ℕ × X)) → IsWell ps → i < length ps → page ps i ≡ p
      → IsPartitionPoint (λ (p : List (List ℕ × X)). ends_before t p ≡ true) (λ (p : List (List ℕ × X)). ends_before t p ≡ false) ps i
      → j ≤ length p → IsPartitionPoint (λ (e : List ℕ × X). is_before e.0 t ≡ true) (λ (e : List ℕ × X). is_before e.0 t ≡ false) p j → IsPlace t ps i j
  place_in t ps i j p w l is parts m cut =
      let ends : ends_before t p ≡ false = sym (ap (ends_before t) (sym (page_at ps i p l) ∙ is)) ∙ parts.1 i p (omega arith) l in
      let taken : AllBefore t (take j p) = take_before t p j (λ k d a b. cut.0 k d (omega arith) a) in
      found p is (lands_in t p j ends m taken) taken (λ d n. cut.1 j d (omega arith) n)
    where
      found : (q : List (List ℕ × X)) → page ps i ≡ q → j < length q → AllBefore t (take j q) → ((d : List ℕ × X) → j < length q → is_before (slice_index_or q j d).0 t ≡ false) → IsPlace t ps i j
      found [] e n taken h = absurd (omega arith)
      found (x ∷ xs) e n taken h = record {
        fits = omega arith;
        lands = λ a. let P : List (List ℕ × X) → Type 0 = λ q. j < length q in subst P (sym e) n;
        before = front_before t ps i j w.sorted (λ k d a b. parts.0 k d (omega arith) a) (let P : List (List ℕ × X) → Type 0 = λ q. AllBefore t (take j q) in subst P (sym e) taken);
        after = rest_after t ps i j (slice_index_or (x ∷ xs) j x) (drop (suc j) (x ∷ xs)) w.sorted (ap (drop j) e ∙ drop-cons (x ∷ xs) j x n) (h x n);
      }

  pub sorted_page : (ps : List (List (List ℕ × X))) (i : ℕ) → T (is_sorted key_cmp (all ps)) → T (is_sorted key_cmp (page ps i))
  sorted_page [] i s = tt
  sorted_page (p ∷ ps) zero s = sorted_left p (all ps) s
  sorted_page (p ∷ ps) (suc i) s = sorted_page ps i (sorted_right p (all ps) s)

  pub page_got : (ps : List (List (List ℕ × X))) (i : ℕ) (p : List (List ℕ × X)) → Some p ≡ slice_get ps i → page ps i ≡ p
  page_got [] i p h = let no : ⊥ = cc in absurd no
  page_got (q ∷ ps) zero p h = let same : q ≡ p = cc in same
  page_got (q ∷ ps) (suc i) p h = page_got ps i p h

  pub page_in : (ps : List (List (List ℕ × X))) (i : ℕ) (p : List (List ℕ × X)) → Some p ≡ slice_get ps i → i < length ps
  page_in [] i p h = let no : ⊥ = cc in absurd no
  page_in (q ∷ ps) zero p h = omega arith
  page_in (q ∷ ps) (suc i) p h = let more : i < length ps = page_in ps i p h in omega arith

  pub page_out : (ps : List (List (List ℕ × X))) (i : ℕ) → None ≡ slice_get ps i → length ps ≤ i
  page_out [] i h = omega arith
  page_out (q ∷ ps) zero h = let no : ⊥ = cc in absurd no
  page_out (q ∷ ps) (suc i) h = let more : length ps ≤ i = page_out ps i h in omega arith

  pub ends_last : (t : List ℕ) (es : List (List ℕ × X)) (e : List ℕ × X) → Some e ≡ slice_get es (length es - 1) → is_before e.0 t ≡ ends_before t es
  ends_last t [] e h = let no : ⊥ = cc in absurd no
  ends_last t (f ∷ []) e h = let same : e ≡ f = cc in ap (λ (x : List ℕ × X). is_before x.0 t) same
  ends_last t (f ∷ g ∷ es) e h = ends_last t (g ∷ es) e (h ∙ ap (slice_get (f ∷ g ∷ es)) (let n : length (f ∷ g ∷ es) - 1 ≡ suc (length (g ∷ es) - 1) = omega arith in n))
