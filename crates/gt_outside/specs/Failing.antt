use Rattle.std.specs.Prelude.{◌≡◌, ◌↔◌, ℕ, ◌+◌, ◌-◌, ◌^◌, min, Contains, Result, IsErr}
use Rattle.gt_outside.specs.declared.failing.FailingCalls.{FailingCalls}

-- the next count, or the same at the end of a u64
abbrev pub one_more : ℕ → ℕ
one_more n = min (n + 1) (2 ^ 64 - 1)

-- whether the next call is to fail
abbrev pub IsPlanned : FailingCalls → Type 0
IsPlanned calls = Contains calls.numbers.items calls.made

-- A call is counted once, and what is planned for later ones stands.
pub record IsCounted (old new : FailingCalls) : Type 0 where
  pub made : new.made ≡ one_more old.made
  pub numbers : new.numbers.items ≡ old.numbers.items

-- A call is counted once, and fails exactly where that was planned.
pub record FollowsPlan {T E : Type 0} (old new : FailingCalls) (result : Result T E) : Type 0 where
  pub fails : IsErr result ↔ IsPlanned old
  pub counted : IsCounted old new
