-- A table beside a log over a base.
use Rattle.std.specs.Prelude.{◌≡◌, ℕ, ◌+◌, ◌-◌, ◌≤◌, List, length, drop}
use Rattle.gt_model.specs.declared.entry.Entry.{Entry}
use Rattle.gt_model.specs.Contents.{Content, at}
use Rattle.gt_objset.specs.Agree.{Agrees}
use Rattle.gt_objset.specs.Table.{Table}

-- From its floor on the table agrees with what the log, which begins after this position, makes of the base, and it has the whole log.
pub record Follows (begin : ℕ) (base : Content) (log : List Entry) (t : Table) : Type 0 where
  pub low : begin ≤ t.floor
  pub front : t.front ≡ begin + length log
  pub agrees : Agrees t (at begin base log t.floor) (drop (t.floor - begin) log)
