-- How often things stand in lists.
use Rattle.std.specs.Prelude.{ℕ, ◌+◌, nat_lt, nat_eq, List, [], ◌∷◌, Bool, true, false}

abbrev pub pick : {A : Type 0} → Bool → A → A → A
pick true x y = x
pick false x y = y

-- f of each, added up
abbrev pub total : {A : Type 0} → (A → ℕ) → List A → ℕ
total f [] = 0
total f (x ∷ xs) = f x + total f xs

-- how often x stands in the list
abbrev pub times : ℕ → List ℕ → ℕ
times x ys = total (λ y. pick (nat_eq y x) 1 0) ys

-- 1 where x is below n
abbrev pub below : ℕ → ℕ → ℕ
below x n = pick (nat_lt x n) 1 0
