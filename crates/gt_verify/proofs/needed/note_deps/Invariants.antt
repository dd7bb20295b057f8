use Rattle.std.proofs.Common.{◌≡◌, ◌++◌, take}
use Rattle.gt_verify.specs.Checks.{old_ones, deps_of}
use Rattle.gt_verify.proofs.needed.note_deps.Given as goal

abbrev pub invariant-loop-needing : goal.invariant-loop-needing
invariant-loop-needing g l = l.names ≡ l.initial.names ++ old_ones (g.L.Look.content l.front) l.path l.stage.staged (deps_of (take l.needing-index l.records))
