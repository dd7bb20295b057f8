-- Totals over the views of all.
use Rattle.std.proofs.Common.{◌≡◌, ℕ, zero, suc, ◌+◌, ◌≤◌, List, [], ◌∷◌, ◌++◌, set, refl, sym, ap, arith}
use mathlib.Core.Option.{some, some-ne-none, some-injective}
use lib.ListN.{get_elem?}
use Rattle.gt_pool.specs.Counting.{total}

module _ {A : Type 0} where
  pub total_set : (f : A → ℕ) (l : List A) (i : ℕ) (a b : A) → get_elem? l i ≡ some a → total f (set l i b) + f a ≡ total f l + f b
  total_set f [] i a b e = absurd (some-ne-none a (sym e))
  total_set f (x ∷ xs) zero a b e = let s : f x ≡ f a = ap f (some-injective _ _ e) in omega (arith, s)
  total_set f (x ∷ xs) (suc i) a b e = let r = total_set f xs i a b e in omega (arith, r)

  pub total_append : (f : A → ℕ) (xs ys : List A) → total f (xs ++ ys) ≡ total f xs + total f ys
  total_append f [] ys = omega arith
  total_append f (x ∷ xs) ys = let r = total_append f xs ys in omega (arith, r)

  pub total_less : (f g : A → ℕ) (l : List A) → ((i : ℕ) (a : A) → get_elem? l i ≡ some a → f a ≤ g a) → total f l ≤ total g l
  total_less f g [] h = omega arith
  total_less f g (x ∷ xs) h = let a = h zero x refl in let r = total_less f g xs (λ i y e. h (suc i) y e) in omega (arith, a, r)

pub total_none : {A : Type 0} (f : A → ℕ) (l : List A) → ((i : ℕ) (a : A) → get_elem? l i ≡ some a → f a ≡ 0) → total f l ≡ 0
total_none f [] h = refl
total_none f (x ∷ xs) h = let a = h zero x refl in let r = total_none f xs (λ i y e. h (suc i) y e) in omega (arith, a, r)

pub total_at : {A : Type 0} (f : A → ℕ) (l : List A) (i : ℕ) (a : A) → get_elem? l i ≡ some a → f a ≤ total f l
total_at f [] i a e = absurd (some-ne-none a (sym e))
total_at f (x ∷ xs) zero a e = let s : f x ≡ f a = ap f (some-injective _ _ e) in omega (arith, s)
total_at f (x ∷ xs) (suc i) a e = let r = total_at f xs i a e in omega (arith, r)
