-- What workers do: each index once, and a piece for each.
use Rattle.std.specs.Prelude.{◌≡◌, ℕ, List, [], ◌∷◌, length, Some, slice_get}
use Rattle.gt_pool.specs.Counting.{total, times, below}

-- The work on these indices, one after the other, makes of one kit the other.
abbrev pub Chain : {K : Type 0} → (K → ℕ → K → Type 0) → K → List ℕ → K → Type 0
Chain step a [] b = a ≡ b
Chain {K} step a (i ∷ is) b = (k : K) × step a i k × Chain step k is b

-- Each kit did the work on indices of its own.
abbrev pub AreRun : {K : Type 0} → (K → ℕ → K → Type 0) → List K → List (List ℕ) → List K → Type 0
AreRun step [] [] [] = Unit {0}
AreRun step [] [] (b ∷ after) = ⊥
AreRun step [] (is ∷ indices) after = ⊥
AreRun step (a ∷ before) [] after = ⊥
AreRun step (a ∷ before) (is ∷ indices) [] = ⊥
AreRun step (a ∷ before) (is ∷ indices) (b ∷ after) = Chain step a is b × AreRun step before indices after

-- The kits did the work on each index below the count, each once in all.
pub record EachOnce {K : Type 0} (step : K → ℕ → K → Type 0) (count : ℕ) (before after : List K) : Type 0 where
  pub indices : List (List ℕ)
  pub runs : AreRun step before indices after
  pub once : (x : ℕ) → total (times x) indices ≡ below x count

-- There is a piece for each index below the count, in their order, that this index may give.
pub record InOrder {P : Type 0} (gives : ℕ → P → Type 0) (count : ℕ) (pieces : List P) : Type 0 where
  pub all : length pieces ≡ count
  pub each : (i : ℕ) (p : P) → slice_get pieces i ≡ Some p → gives i p
