-- Searches by halves, over the references of a page and over the pages.
use Rattle.std.proofs.Common.{◌≡◌, ℕ, zero, suc, ◌+◌, ◌<◌, ◌≤◌, Bool, true, false, ◌||◌, T, List, [], ◌∷◌, ◌++◌, length, slice_index_or, refl, sym, ap, ◌∙◌, arith}
use Rattle.std.proofs.lemmas.List.{get_or_default}
use Rattle.std.specs.List.{list_any}
use Rattle.std.specs.Ordering.{is_lt}
use Rattle.std.specs.FinMap.{is_sorted}
use Rattle.std.specs.FinMap.Entries.{below_all}
use Rattle.gt_model.specs.Contents.{key_cmp}
use Rattle.gt_slots.specs.Pages.{is_before, all, AllBefore, ends_before, NoneEmpty, IsWell}
use Rattle.gt_slots.proofs.SortLaws.{front_of, back_of, before_less, sorted_right, ends_all}

or_left : (a b : Bool) → a ≡ true → (a || b) ≡ true
or_left true b h = refl
or_left false b h = let no : ⊥ = cc in absurd no

or_right : (a b : Bool) → b ≡ true → (a || b) ≡ true
or_right true b h = refl
or_right false b h = h

-- what passes stands before what doesn't
abbrev pub IsCut : {A : Type 0} → (A → Bool) → List A → Type 0
IsCut {A} f xs = (i j : ℕ) (d : A) → i ≤ j → j < length xs → f (slice_index_or xs j d) ≡ true → f (slice_index_or xs i d) ≡ true

module _ {A : Type 0} (f : A → Bool) (xs : List A) (cut : IsCut f xs) where
  pub low_half : (m : ℕ) (d : A) → m < length xs → f (slice_index_or xs m d) ≡ true → (k : ℕ) (d' : A) → 0 ≤ k → k < m + 1 → f (slice_index_or xs k d') ≡ true
  low_half m d l h k d' low high = cut k m d' (omega arith) l (ap f (get_or_default xs m d' d l) ∙ h)

  pub high_half : (m : ℕ) (d : A) → m < length xs → f (slice_index_or xs m d) ≡ false → (k : ℕ) (d' : A) → m ≤ k → k < length xs → f (slice_index_or xs k d') ≡ false
  high_half m d l h k d' low high = past (f (slice_index_or xs k d')) refl
    where
      past : (b : Bool) → f (slice_index_or xs k d') ≡ b → b ≡ false
      past true t =
          let yes : f (slice_index_or xs m d') ≡ true = cut m k d' low high t in
          let same : f (slice_index_or xs m d') ≡ f (slice_index_or xs m d) = ap f (get_or_default xs m d' d l) in
          let no : ⊥ = cc in absurd no
      past false t = refl

module _ {X : Type 0} where
  below_at : (a : List ℕ) (es : List (List ℕ × X)) → T (below_all key_cmp a es) → (j : ℕ) (d : List ℕ × X) → j < length es → T (is_lt (key_cmp a (slice_index_or es j d).0))
  below_at a [] b j d l = absurd (omega arith)
  below_at a (e ∷ es) b zero d l = front_of (is_lt (key_cmp a e.0)) (below_all key_cmp a es) b
  below_at a (e ∷ es) b (suc j) d l = below_at a es (back_of (is_lt (key_cmp a e.0)) (below_all key_cmp a es) b) j d (omega arith)

  pub slots_cut : (t : List ℕ) (es : List (List ℕ × X)) → T (is_sorted key_cmp es) → IsCut (λ (e : List ℕ × X). is_before e.0 t) es
  slots_cut t [] s i j d le l h = absurd (omega arith)
  slots_cut t (e ∷ es) s zero zero d le l h = h
  slots_cut t (e ∷ es) s zero (suc j) d le l h = before_less e.0 (slice_index_or es j d).0 t (below_at e.0 es (front_of (below_all key_cmp e.0 es) (is_sorted key_cmp es) s) j d (omega arith)) h
  slots_cut t (e ∷ es) s (suc i) zero d le l h = absurd (omega arith)
  slots_cut t (e ∷ es) s (suc i) (suc j) d le l h = slots_cut t es (back_of (below_all key_cmp e.0 es) (is_sorted key_cmp es) s) i j d (omega arith) (omega arith) h

  -- ---- pages

  abbrev some_before : List ℕ → List (List ℕ × X) → Bool
  some_before t es = list_any (λ e. is_before e.0 t) es

  some-left : (t : List ℕ) (xs ys : List (List ℕ × X)) → some_before t xs ≡ true → some_before t (xs ++ ys) ≡ true
  some-left t [] ys h = let no : ⊥ = cc in absurd no
  some-left t (x ∷ xs) ys h = by (some-left t xs ys) (is_before x.0 t) h
    where
      by : (some_before t xs ≡ true → some_before t (xs ++ ys) ≡ true) → (b : Bool) → (b || some_before t xs) ≡ true → (b || some_before t (xs ++ ys)) ≡ true
      by more true h = refl
      by more false h = more h

  some-right : (t : List ℕ) (xs ys : List (List ℕ × X)) → some_before t ys ≡ true → some_before t (xs ++ ys) ≡ true
  some-right t [] ys h = h
  some-right t (x ∷ xs) ys h = or_right (is_before x.0 t) (some_before t (xs ++ ys)) (some-right t xs ys h)

  some_end : (t : List ℕ) (es : List (List ℕ × X)) → 0 < length es → ends_before t es ≡ true → some_before t es ≡ true
  some_end t [] l h = absurd (omega arith)
  some_end t (e ∷ []) l h = or_left (is_before e.0 t) false h
  some_end t (e ∷ f ∷ es) l h = or_right (is_before e.0 t) (some_before t (f ∷ es)) (some_end t (f ∷ es) (omega arith) h)

  some_page : (t : List ℕ) (ps : List (List (List ℕ × X))) (j : ℕ) (d : List (List ℕ × X)) → NoneEmpty ps → j < length ps → ends_before t (slice_index_or ps j d) ≡ true → some_before t (all ps) ≡ true
  some_page t [] j d n l h = absurd (omega arith)
  some_page t (p ∷ ps) zero d n l h = some-left t p (all ps) (some_end t p n.0 h)
  some_page t (p ∷ ps) (suc j) d n l h = some-right t p (all ps) (some_page t ps j d n.1 (omega arith) h)

  before_some : (a t : List ℕ) (es : List (List ℕ × X)) → T (below_all key_cmp a es) → some_before t es ≡ true → is_before a t ≡ true
  before_some a t [] b h = let no : ⊥ = cc in absurd no
  before_some a t (e ∷ es) b h = by (before_some a t es (back_of (is_lt (key_cmp a e.0)) (below_all key_cmp a es) b)) (is_before e.0 t) refl
    where
      by : (some_before t es ≡ true → is_before a t ≡ true) → (c : Bool) → is_before e.0 t ≡ c → is_before a t ≡ true
      by more true q = before_less a e.0 t (front_of (is_lt (key_cmp a e.0)) (below_all key_cmp a es) b) q
      by more false q = more (sym (ap (λ c. c || some_before t es) q) ∙ h)

  below_right : (a : List ℕ) (xs ys : List (List ℕ × X)) → T (below_all key_cmp a (xs ++ ys)) → T (below_all key_cmp a ys)
  below_right a [] ys b = b
  below_right a (x ∷ xs) ys b = below_right a xs ys (back_of (is_lt (key_cmp a x.0)) (below_all key_cmp a (xs ++ ys)) b)

  before_right : (t : List ℕ) (xs ys : List (List ℕ × X)) → T (is_sorted key_cmp (xs ++ ys)) → some_before t ys ≡ true → AllBefore t xs
  before_right t [] ys s h = tt
  before_right t (x ∷ xs) ys s h = (before_some x.0 t ys (below_right x.0 xs ys (front_of (below_all key_cmp x.0 (xs ++ ys)) (is_sorted key_cmp (xs ++ ys)) s)) h, before_right t xs ys (back_of (below_all key_cmp x.0 (xs ++ ys)) (is_sorted key_cmp (xs ++ ys)) s) h)

  pages_by : (t : List ℕ) (ps : List (List (List ℕ × X))) → T (is_sorted key_cmp (all ps)) → NoneEmpty ps → IsCut (ends_before t) ps
  pages_by t [] s n i j d le l h = absurd (omega arith)
  pages_by t (p ∷ ps) s n zero zero d le l h = h
  pages_by t (p ∷ ps) s n zero (suc j) d le l h = ends_all t p (before_right t p (all ps) s (some_page t ps j d n.1 (omega arith) h))
  pages_by t (p ∷ ps) s n (suc i) zero d le l h = absurd (omega arith)
  pages_by t (p ∷ ps) s n (suc i) (suc j) d le l h = pages_by t ps (sorted_right p (all ps) s) n.1 i j d (omega arith) (omega arith) h

  pub pages_cut : (t : List ℕ) (ps : List (List (List ℕ × X))) → IsWell ps → IsCut (ends_before t) ps
  pages_cut t ps w = pages_by t ps w.sorted w.full
