-- What a clause sees of a history, its owner and its readers.
use Rattle.std.specs.Prelude.{ℕ, ◌+◌, List, length}
use Rattle.atomic_table.specs.Seated.{TableId}
use Rattle.gt_model.specs.declared.entry.Entry.{Entry}

-- which history it is: its table, and its first position
pub record Named : Type 0 where
  pub table : TableId
  pub first : ℕ

-- what its holder knows: the updates from the first position on, and the greatest number loaded
pub record Knowledge : Type 0 where
  pub history : Named
  pub list : List Entry
  pub number : ℕ

-- the list's last position
abbrev pub last_of : Knowledge → ℕ
last_of k = k.history.first + length k.list
