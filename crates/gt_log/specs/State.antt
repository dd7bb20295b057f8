-- A log, as clauses see it.
use Rattle.std.specs.Prelude.{ℕ, Bool}

-- how many entries are in, and whether one more may be
pub record LogState : Type 0 where
  pub len : ℕ
  pub in_doubt : Bool
