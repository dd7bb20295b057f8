-- What begins anew at some positions, so that what was given before doesn't count any more.
use Rattle.std.specs.Prelude.{ℕ, nat_le, Bool, true, false, if◌then◌else◌, List, Option, Some, None}
use Rattle.gt_versions.specs.Versions.{last_at}

-- since when it is there, of the last time that it came or went
abbrev pub since : Option (ℕ × Bool) → Option ℕ
since None = None
since (Some (q, false)) = None
since (Some (q, true)) = Some q

-- since when it is there, at a position; none where it isn't
abbrev pub lives_since : List (ℕ × Bool) → ℕ → Option ℕ
lives_since es p = since (last_at es p None)

module _ {V : Type 0} where
  -- where the last version begins, 0 where there is none
  abbrev pub start_of : Option (ℕ × V) → ℕ
  start_of None = 0
  start_of (Some e) = e.0

  -- a version counts from this position on
  abbrev pub value_since : ℕ → Option (ℕ × Option V) → Option V
  value_since c None = None
  value_since c (Some e) = if nat_le c e.0 then e.1 else None
