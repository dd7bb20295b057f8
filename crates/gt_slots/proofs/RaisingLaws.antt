-- Pages of references that were raised to a floor.
use Rattle.std.proofs.Common.{◌≡◌, ℕ, ◌<◌, ◌≤◌, Bool, true, false, cond, not, nat_eq, T, List, [], ◌∷◌, ◌++◌, length, Option, Some, IfSome, refl, sym, ap, ◌∙◌, subst, arith}
use Rattle.std.proofs.lemmas.Bool.Decides.{nat_tests}
use Rattle.std.specs.List.{retain_mut}
use Rattle.std.specs.List.Retain.{RetainsInTurn}
use Rattle.std.specs.Ordering.{is_lt}
use Rattle.std.specs.BTreeMap.{is_at}
use Rattle.std.specs.FinMap.{is_sorted}
use Rattle.std.specs.FinMap.Entries.{below_all}
use Rattle.gt_model.specs.Contents.{key_cmp}
use Rattle.gt_versions.specs.Ascending.{IsAscending}
use Rattle.gt_versions.specs.Raised.{raised_values}
use Rattle.gt_versions.proofs.Keys.{at_key, at_key-same, flip}
use Rattle.gt_slots.specs.Slots.{Slot, items_of}
use Rattle.gt_slots.specs.Pages.{all, NoneEmpty, NoneLonger, IsWell, page_limit}
use Rattle.gt_slots.specs.Raised.{raised_slot, is_left, raised_page, raised_pages, AreAscending}
use Rattle.gt_slots.proofs.SortLaws.{both, front_of, back_of, none_above}

-- What is left, as a list, where a closure that stays as it was answers by a function.
pub retained : {S X : Type 0} (R : S → X → Bool → S → X → Type 0) (test : X → Bool) (change : X → X) (s : S) → ((x : X) (b : Bool) (t : S) (y : X) → R s x b t y → (b ≡ test x) × (y ≡ change x) × (t ≡ s)) → (xs ys : List X) → RetainsInTurn R s xs ys → ys ≡ retain_mut test change xs
retained R test change s f [] ys h = h
retained R test change s f (x ∷ xs) ys h =
    let said = f x h.0 h.1 h.2 h.3 in
    let rest = retained R test change s f xs h.4 (subst (λ t. RetainsInTurn R t xs h.4) said.2 h.5) in
    h.6 ∙ ap (λ b. cond b (h.2 ∷ h.4) h.4) said.0 ∙ ap (λ y. cond (test x) (y ∷ h.4) h.4) said.1 ∙ ap (λ l. cond (test x) (change x ∷ l) l) rest

-- What each call shows of its element holds of all.
pub seen : {S X : Type 0} (R : S → X → Bool → S → X → Type 0) (P : X → Type 0) (All : List X → Type 0) (s : S) → All [] → ((x : X) (xs : List X) → P x → All xs → All (x ∷ xs)) → ((x : X) (b : Bool) (t : S) (y : X) → R s x b t y → P x × (t ≡ s)) → (xs ys : List X) → RetainsInTurn R s xs ys → All xs
seen R P All s none more f [] ys h = none
seen R P All s none more f (x ∷ xs) ys h =
    let said = f x h.0 h.1 h.2 h.3 in
    more x xs said.0 (seen R P All s none more f xs h.4 (subst (λ t. RetainsInTurn R t xs h.4) said.1 h.5))

pub ascending-append : (es fs : List (List ℕ × Slot)) → AreAscending es → AreAscending fs → AreAscending (es ++ fs)
ascending-append [] fs h g = g
ascending-append (e ∷ es) fs h g = (h.0, ascending-append es fs h.1 g)

pub ascending_at : (x : List ℕ) (es : List (List ℕ × Slot)) → AreAscending es → IsAscending (items_of (at_key es x))
ascending_at x [] h = tt
ascending_at x (e ∷ es) h =
    let rest = ascending_at x es h.1 in
    elim (is_at (key_cmp x) e.0) as (λ b. IsAscending (items_of (cond b (Some e.1) (at_key es x)))) [ true ↦ h.0 | false ↦ rest ]

module _ {X : Type 0} where
  none_of : (xs : List X) → not (nat_eq (length xs) 0) ≡ false → [] ≡ xs
  none_of [] h = refl
  none_of (x ∷ xs) h = let some : nat_eq (length (x ∷ xs)) 0 ≡ false = grind (arith, nat_tests) in let no : ⊥ = cc in absurd no

  some_of : (xs : List X) → not (nat_eq (length xs) 0) ≡ true → 0 < length xs
  some_of [] h = let no : ⊥ = cc in absurd no
  some_of (x ∷ xs) h = omega arith

module _ (start to : ℕ) where
  -- ---- one page

  page-append : (es fs : List (List ℕ × Slot)) → raised_page start to (es ++ fs) ≡ raised_page start to es ++ raised_page start to fs
  page-append [] fs = refl
  page-append (e ∷ es) fs =
      let rest = page-append es fs in
      ap (λ l. cond (is_left (raised_slot start to e.1)) ((e.0, raised_slot start to e.1) ∷ l) l) rest ∙ by (is_left (raised_slot start to e.1))
    where
      by : (b : Bool) → cond b ((e.0, raised_slot start to e.1) ∷ raised_page start to es ++ raised_page start to fs) (raised_page start to es ++ raised_page start to fs)
          ≡ cond b ((e.0, raised_slot start to e.1) ∷ raised_page start to es) (raised_page start to es) ++ raised_page start to fs
      by true = refl
      by false = refl

  page-short : (es : List (List ℕ × Slot)) → length (raised_page start to es) ≤ length es
  page-short [] = omega arith
  page-short (e ∷ es) =
      let rest : length (raised_page start to es) ≤ length es = page-short es in
      by rest (is_left (raised_slot start to e.1))
    where
      by : length (raised_page start to es) ≤ length es → (b : Bool) → length (cond b ((e.0, raised_slot start to e.1) ∷ raised_page start to es) (raised_page start to es)) ≤ length (e ∷ es)
      by l true = omega arith
      by l false = omega arith

  page-below : (k : List ℕ) (es : List (List ℕ × Slot)) → T (below_all key_cmp k es) → T (below_all key_cmp k (raised_page start to es))
  page-below k [] h = tt
  page-below k (e ∷ es) h =
      let rest = page-below k es (back_of (is_lt (key_cmp k e.0)) (below_all key_cmp k es) h) in
      elim (is_left (raised_slot start to e.1)) as (λ b. T (below_all key_cmp k (cond b ((e.0, raised_slot start to e.1) ∷ raised_page start to es) (raised_page start to es)))) [
        | true ↦ both (is_lt (key_cmp k e.0)) (below_all key_cmp k (raised_page start to es)) (front_of (is_lt (key_cmp k e.0)) (below_all key_cmp k es) h) rest
        | false ↦ rest
      ]

  page-sorted : (es : List (List ℕ × Slot)) → T (is_sorted key_cmp es) → T (is_sorted key_cmp (raised_page start to es))
  page-sorted [] h = tt
  page-sorted (e ∷ es) h =
      let rest = page-sorted es (back_of (below_all key_cmp e.0 es) (is_sorted key_cmp es) h) in
      let below = page-below e.0 es (front_of (below_all key_cmp e.0 es) (is_sorted key_cmp es) h) in
      elim (is_left (raised_slot start to e.1)) as (λ b. T (is_sorted key_cmp (cond b ((e.0, raised_slot start to e.1) ∷ raised_page start to es) (raised_page start to es)))) [
        | true ↦ both (below_all key_cmp e.0 (raised_page start to es)) (is_sorted key_cmp (raised_page start to es)) below rest
        | false ↦ rest
      ]

  -- ---- one reference

  pub page_items : (x : List ℕ) (es : List (List ℕ × Slot)) → T (is_sorted key_cmp es) → items_of (at_key (raised_page start to es) x) ≡ raised_values start to (items_of (at_key es x))
  page_items x [] h = refl
  page_items x (e ∷ es) h =
      let below = page-below e.0 es (front_of (below_all key_cmp e.0 es) (is_sorted key_cmp es) h) in
      by (page_items x es (back_of (below_all key_cmp e.0 es) (is_sorted key_cmp es) h)) below (is_at (key_cmp x) e.0) (is_left (raised_slot start to e.1)) refl refl
    where
      by : items_of (at_key (raised_page start to es) x) ≡ raised_values start to (items_of (at_key es x)) → T (below_all key_cmp e.0 (raised_page start to es)) → (here left : Bool) → is_at (key_cmp x) e.0 ≡ here → is_left (raised_slot start to e.1) ≡ left
          → items_of (at_key (cond left ((e.0, raised_slot start to e.1) ∷ raised_page start to es) (raised_page start to es)) x) ≡ raised_values start to (items_of (cond here (Some e.1) (at_key es x)))
      by rest below true true a s = ap (λ b. items_of (cond b (Some (raised_slot start to e.1)) (at_key (raised_page start to es) x))) a
      by rest below true false a s =
          ap items_of (at_key-same (raised_page start to es) e.0 x (flip e.0 x ∙ a) ∙ none_above e.0 (raised_page start to es) below)
          ∙ none_of (raised_values start to e.1.0) s
      by rest below false true a s = ap (λ b. items_of (cond b (Some (raised_slot start to e.1)) (at_key (raised_page start to es) x))) a ∙ rest
      by rest below false false a s = rest

  pub page_left : (x : List ℕ) (es : List (List ℕ × Slot)) → IfSome (at_key (raised_page start to es) x) (λ s. 0 < length s.0)
  page_left x [] = tt
  page_left x (e ∷ es) = by (page_left x es) (is_at (key_cmp x) e.0) (is_left (raised_slot start to e.1)) refl refl
    where
      Left : Option Slot → Type 0
      Left o = IfSome o (λ s. 0 < length s.0)

      by : IfSome (at_key (raised_page start to es) x) (λ s. 0 < length s.0) → (here left : Bool) → is_at (key_cmp x) e.0 ≡ here → is_left (raised_slot start to e.1) ≡ left
          → IfSome (at_key (cond left ((e.0, raised_slot start to e.1) ∷ raised_page start to es) (raised_page start to es)) x) (λ s. 0 < length s.0)
      by rest here false a s = rest
      by rest true true a s = subst (λ b. Left (cond b (Some (raised_slot start to e.1)) (at_key (raised_page start to es) x))) (sym a) (some_of (raised_values start to e.1.0) s)
      by rest false true a s = subst (λ b. Left (cond b (Some (raised_slot start to e.1)) (at_key (raised_page start to es) x))) (sym a) rest

  -- ---- all pages

  pages_all : (ps : List (List (List ℕ × Slot))) → all (raised_pages start to ps) ≡ raised_page start to (all ps)
  pages_all [] = refl
  pages_all (p ∷ ps) = by (pages_all ps) (not (nat_eq (length (raised_page start to p)) 0)) refl
    where
      by : all (raised_pages start to ps) ≡ raised_page start to (all ps) → (b : Bool) → not (nat_eq (length (raised_page start to p)) 0) ≡ b → all (cond b (raised_page start to p ∷ raised_pages start to ps) (raised_pages start to ps)) ≡ raised_page start to (p ++ all ps)
      by rest true t = ap (λ l. raised_page start to p ++ l) rest ∙ sym (page-append p (all ps))
      by rest false t = rest ∙ ap (λ l. l ++ raised_page start to (all ps)) (none_of (raised_page start to p) t) ∙ sym (page-append p (all ps))

  pages_full : (ps : List (List (List ℕ × Slot))) → NoneEmpty (raised_pages start to ps)
  pages_full [] = tt
  pages_full (p ∷ ps) = by (pages_full ps) (not (nat_eq (length (raised_page start to p)) 0)) refl
    where
      by : NoneEmpty (raised_pages start to ps) → (b : Bool) → not (nat_eq (length (raised_page start to p)) 0) ≡ b → NoneEmpty (cond b (raised_page start to p ∷ raised_pages start to ps) (raised_pages start to ps))
      by rest true t = (some_of (raised_page start to p) t, rest)
      by rest false t = rest

  pages_short : (n : ℕ) (ps : List (List (List ℕ × Slot))) → NoneLonger n ps → NoneLonger n (raised_pages start to ps)
  pages_short n [] h = tt
  pages_short n (p ∷ ps) h =
      let rest = pages_short n ps h.1 in
      let l : length p ≤ n = h.0 in
      let m : length (raised_page start to p) ≤ length p = page-short p in
      elim (not (nat_eq (length (raised_page start to p)) 0)) as (λ b. NoneLonger n (cond b (raised_page start to p ∷ raised_pages start to ps) (raised_pages start to ps))) [ true ↦ (omega arith, rest) | false ↦ rest ]

  module _ (ps qs : List (List (List ℕ × Slot))) (is : qs ≡ raised_pages start to ps) where
    whole : all qs ≡ raised_page start to (all ps)
    whole = ap all is ∙ pages_all ps

    pub pages_well : IsWell ps → IsWell qs
    pages_well w = record {
      sorted = subst (λ l. T (is_sorted key_cmp l)) (sym whole) (page-sorted (all ps) w.sorted);
      full = subst (λ l. NoneEmpty l) (sym is) (pages_full ps);
      short = subst (λ l. NoneLonger page_limit l) (sym is) (pages_short page_limit ps w.short);
    }

    pub pages_items : T (is_sorted key_cmp (all ps)) → (x : List ℕ) → items_of (at_key (all qs) x) ≡ raised_values start to (items_of (at_key (all ps) x))
    pages_items h x = ap (λ l. items_of (at_key l x)) whole ∙ page_items x (all ps) h

    pub pages_left : (x : List ℕ) → IfSome (at_key (all qs) x) (λ s. 0 < length s.0)
    pages_left x = subst (λ l. IfSome (at_key l x) (λ s. 0 < length s.0)) (sym whole) (page_left x (all ps))

-- there is no page exactly where there is no entry
pub no_page : {X : Type 0} (ps : List (List (List ℕ × X))) → NoneEmpty ps → nat_eq (length ps) 0 ≡ nat_eq (length (all ps)) 0
no_page [] h = refl
no_page ([] ∷ ps) h = let some : 0 < 0 = h.0 in absurd (omega arith)
no_page ((e ∷ p) ∷ ps) h =
    let a : nat_eq (length ((e ∷ p) ∷ ps)) 0 ≡ false = grind (arith, nat_tests) in
    let b : nat_eq (length (e ∷ p ++ all ps)) 0 ≡ false = grind (arith, nat_tests) in
    a ∙ sym b
