use Rattle.std.proofs.Common.{◌≡◌, ◌++◌, take}
use Rattle.gt_verify.specs.Checks.{old_ones, values_of}
use Rattle.gt_verify.proofs.needed.note_values.Given as goal

abbrev pub invariant-loop-update : goal.invariant-loop-update
invariant-loop-update g l = l.names ≡ l.initial.names ++ old_ones (g.L.Look.content l.front) l.path l.stage.staged (values_of (take l.update-index l.refs))
