-- The first answer that there is, found by a walk.
use Rattle.std.proofs.Common.{◌≡◌, ℕ, ◌+◌, ◌<◌, List, length, get_or, drop, Option, Some, None, sym, ◌∙◌, ap, suc, arith, drop-cons}
use Rattle.std.specs.Option.{option_or}
use Rattle.gt_model.specs.Verdicts.{first_some}

module _ {A B : Type 0} (f : A → Option B) (xs : List A) (i : ℕ) (x : A) (here : i < length xs) (is : x ≡ get_or xs i x) where
  ahead : first_some f (drop i xs) ≡ option_or (f x) (first_some f (drop (i + 1) xs))
  ahead = ap (first_some f) (drop-cons xs i x here) ∙ ap (λ (y : A). option_or (f y) (first_some f (drop (suc i) xs))) (sym is) ∙ ap (λ (n : ℕ). option_or (f x) (first_some f (drop n xs))) (let e : suc i ≡ i + 1 = omega arith in e)

  -- this one answers
  pub answers_here : (y : B) → Some y ≡ f x → first_some f (drop i xs) ≡ first_some f xs → Some y ≡ first_some f xs
  answers_here y e left = ap (λ (o : Option B). option_or o (first_some f (drop (i + 1) xs))) e ∙ sym ahead ∙ left

  -- this one doesn't, and what is left answers as all do
  pub answers_later : None ≡ f x → first_some f (drop i xs) ≡ first_some f xs → first_some f (drop (i + 1) xs) ≡ first_some f xs
  answers_later e left = ap (λ (o : Option B). option_or o (first_some f (drop (i + 1) xs))) e ∙ sym ahead ∙ left
