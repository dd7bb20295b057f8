-- One item of a list, by its place.
use Rattle.std.proofs.Common.{◌≡◌, ℕ, zero, suc, ◌+◌, ◌<◌, List, [], ◌∷◌, ◌++◌, length, get_or, take, drop, sym, ◌∙◌, ap, subst, arith}
use Rattle.std.proofs.lemmas.List.{take_more, drop_more}
use Rattle.std.specs.List.{AllByRecursion}

-- it begins what is left
pub drop_next : {A : Type 0} (xs : List A) (i : ℕ) (x : A) → i < length xs → x ≡ get_or xs i x → drop i xs ≡ x ∷ drop (i + 1) xs
drop_next {A = A} xs i x lt is = drop_more xs i x lt ∙ ap (λ (y : A). y ∷ drop (i + 1) xs) (sym is)

-- it comes behind those before it
pub take_next : {A : Type 0} (xs : List A) (i : ℕ) (x : A) → i < length xs → x ≡ get_or xs i x → take (i + 1) xs ≡ take i xs ++ x ∷ []
take_next {A = A} xs i x lt is = take_more xs i x lt ∙ ap (λ (y : A). take i xs ++ y ∷ []) (sym is)

-- what holds of all holds of it
pub of_all : {A : Type 0} (P : A → Type 0) (xs : List A) (i : ℕ) (x : A) → i < length xs → x ≡ get_or xs i x → AllByRecursion P xs → P x
of_all P [] i x lt is h = absurd (omega arith)
of_all P (y ∷ xs) zero x lt is h = subst P (sym is) h.0
of_all P (y ∷ xs) (suc i) x lt is h = of_all P xs i x (omega arith) is h.1
