-- How many bytes were taken from a source that tells them.
use Rattle.std.specs.Prelude.{◌≡◌, ◌≤◌, ℕ, List, length, Option}
use Rattle.std.specs.Io.KnownBytes.{Consumes}

-- exactly n bytes were taken
pub record ConsumesCount (old new : Option (List ℕ)) (n : ℕ) : Type 0 where
  pub bytes : List ℕ
  pub count : length bytes ≡ n
  pub taken : Consumes old new bytes

-- at most n bytes were taken
pub record ConsumesAtMost (old new : Option (List ℕ)) (n : ℕ) : Type 0 where
  pub bytes : List ℕ
  pub count : length bytes ≤ n
  pub taken : Consumes old new bytes
