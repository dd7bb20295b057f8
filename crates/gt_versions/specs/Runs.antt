-- A value that counts, for as long as one counts.
use Rattle.std.specs.Prelude.{◌≡◌, ◌≢◌, ◌⊎◌, ℕ, ◌-◌, ◌<◌, ◌≤◌, nat_le, Bool, if◌then◌else◌, List, [], ◌∷◌, Option, Some, None, is_some, IsSome}
use Rattle.gt_model.specs.Contents.{and_then}
use Rattle.gt_versions.specs.Ascending
use Rattle.gt_versions.specs.Versions.{last_at}
use Rattle.gt_versions.specs.Lives.{lives_since, value_since}

module _ {V : Type 0} where
  -- where the first version past a position begins
  abbrev pub next_after : List (ℕ × V) → ℕ → Option ℕ
  next_after [] p = None
  next_after (e ∷ es) p = if nat_le e.0 p then next_after es p else Some e.0

  -- the last version at or before a position has this value
  abbrev pub set_at : ℕ → V → List (ℕ × V) → List (ℕ × V)
  set_at p v [] = []
  set_at p v (e ∷ es) = if is_some (last_at es p None) then e ∷ set_at p v es else (if nat_le e.0 p then (e.0, v) ∷ es else e ∷ es)

module _ {V : Type 0} where
  -- what counts at a position: what was given since it is there
  abbrev pub value_at : List (ℕ × Bool) → List (ℕ × Option V) → ℕ → Option V
  value_at lives es p = and_then (lives_since lives p) (λ c. value_since c (last_at es p None))

  -- A value counts at each position from one to another.
  abbrev pub IsRun : List (ℕ × Bool) → List (ℕ × Option V) → ℕ → ℕ → Type 0
  IsRun lives es from to = (q : ℕ) → from ≤ q → q ≤ to → IsSome (value_at lives es q)

  -- From a position on, where a value begins, for as long as one counts it is this one. Nothing else changes that is asked for from the floor on.
  pub record SetsRun (floor position : ℕ) (v : V) (lives : List (ℕ × Bool)) (old new : List (ℕ × Option V)) : Type 0 where
    pub set : (floor < position → value_at lives old (position - 1) ≢ value_at lives old position) → (p : ℕ) → position ≤ p → IsRun lives old position p → value_at lives new p ≡ Some v
    pub either : (p : ℕ) → floor ≤ p → (value_at lives new p ≡ value_at lives old p) ⊎ (position ≤ p) × IsRun lives old position p × (value_at lives new p ≡ Some v)
    pub newest : (q : ℕ) → Ascending.IsUpTo q old → Ascending.IsUpTo q new
