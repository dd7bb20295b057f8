use Rattle.std.proofs.Common.{◌≡◌, ◌++◌, take}
use Rattle.gt_verify.specs.Checks.{old_ones}
use Rattle.gt_verify.proofs.needed.note.Given as goal

abbrev pub invariant-loop-name : goal.invariant-loop-name
invariant-loop-name g l = l.names ≡ l.initial.names ++ old_ones (g.L.Look.content l.front) l.path l.stage.staged (take l.name-index l.more)
