use Rattle.std.proofs.Common.{◌≡◌, drop}
use Rattle.gt_model.specs.Verdicts.{first_some}
use Rattle.gt_verify.specs.Checks.{conflict_of}
use Rattle.gt_verify.proofs.old_values.find_old_values.Given as goal

abbrev pub invariant-loop-update : goal.invariant-loop-update
invariant-loop-update g l =
    first_some (conflict_of (g.L.Look.content l.front) l.path) l.refs ≡ first_some (conflict_of (g.L.Look.content l.front) l.path) (drop l.update-index l.refs)
