-- A table against the content of its log.
use Rattle.std.specs.Prelude.{◌≡◌, ℕ, ◌+◌, ◌≤◌, List, length}
use Rattle.gt_model.specs.Contents.{Content, at}
use Rattle.gt_model.specs.Verdicts.{refs_in}
use Rattle.gt_model.specs.declared.entry.Entry.{Entry}
use Rattle.gt_reftable.specs.Table.{Table, refs_at}

-- At each position from the floor to the front the table has the references of the content there.
pub record Agrees (t : Table) (base : Content) (log : List Entry) : Type 0 where
  pub front : t.front ≡ t.floor + length log
  pub refs : (p : ℕ) (path : List ℕ) → t.floor ≤ p → p ≤ t.front → refs_at t p path ≡ refs_in (at t.floor base log p) path
