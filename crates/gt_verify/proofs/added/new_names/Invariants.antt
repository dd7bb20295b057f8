use Rattle.std.proofs.Common.{◌≡◌, take}
use Rattle.gt_verify.specs.Checks.{unseen, names_of}
use Rattle.gt_verify.proofs.added.new_names.Given as goal

abbrev pub invariant-loop-i : goal.invariant-loop-i
invariant-loop-i g l = l.names ≡ unseen (g.L.Look.content l.front) l.path (names_of (take l.i l.stage.staged.records))
