use Rattle.std.proofs.Common.{◌≡◌, ◌++◌, take}
use Rattle.gt_verify.specs.Checks.{old_ones, names_of}
use Rattle.gt_verify.proofs.needed.note_records.Given as goal

abbrev pub invariant-loop-i : goal.invariant-loop-i
invariant-loop-i g l = l.names ≡ l.initial.names ++ old_ones (g.L.Look.content l.front) l.path l.stage.staged (names_of (take l.i l.stage.staged.records))
