use Rattle.std.proofs.Common.{◌≡◌, ◌+◌, ◌≤◌, ◌++◌, take}
use Rattle.std.specs.Prelude.{vec_len, vec_capacity}
use Rattle.gt_table.specs.EntryLog.{gone_entries}
use Rattle.gt_table.proofs.entry_log.remember.Given as goal

abbrev pub invariant-loop-entry : goal.invariant-loop-entry
invariant-loop-entry l = record {
  items : gone_entries l.gone.items ≡ gone_entries l.initial.gone.items ++ take l.entry-index l.entries;
  len : vec_len l.gone ≡ vec_len l.initial.gone + l.entry-index;
  capacity : vec_capacity l.initial.gone ≤ vec_capacity l.gone;
}
