-- When two lists of bytes are the same.
use Rattle.std.proofs.Common.{◌≡◌, ℕ, Bool, true, false, nat_eq, ◌&&◌, List, [], ◌∷◌, refl, ◌∙◌, ap, arith}
use Rattle.std.proofs.lemmas.Bool.Decides.{nat_tests}
use Rattle.std.specs.Cmp.Lexicographic.{pointwise}

pub pointwise-true : (xs ys : List ℕ) → pointwise nat_eq xs ys ≡ true → xs ≡ ys
pointwise-true [] [] is = refl
pointwise-true [] (y ∷ ys) is = absurd (cc (is))
pointwise-true (x ∷ xs) [] is = absurd (cc (is))
pointwise-true (x ∷ xs) (y ∷ ys) is = by (nat_eq x y) refl is (pointwise-true xs ys)
  where
    by : (b : Bool) → nat_eq x y ≡ b → (b && pointwise nat_eq xs ys) ≡ true → (pointwise nat_eq xs ys ≡ true → xs ≡ ys) → x ∷ xs ≡ y ∷ ys
    by true t rest more = let same : x ≡ y = grind (arith, nat_tests) in let all : xs ≡ ys = more rest in cc
    by false t rest more = absurd (cc (rest))

pub pointwise-refl : (xs : List ℕ) → pointwise nat_eq xs xs ≡ true
pointwise-refl [] = refl
pointwise-refl (x ∷ xs) = let same : nat_eq x x ≡ true = grind (arith, nat_tests) in ap (λ (b : Bool). b && pointwise nat_eq xs xs) same ∙ pointwise-refl xs
