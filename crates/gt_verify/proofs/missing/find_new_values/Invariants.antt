use Rattle.std.proofs.Common.{◌≡◌, drop}
use Rattle.gt_model.specs.Verdicts.{first_some}
use Rattle.gt_verify.specs.Checks.{missing_value_of}
use Rattle.gt_verify.proofs.missing.find_new_values.Given as goal

abbrev pub invariant-loop-update : goal.invariant-loop-update
invariant-loop-update g l =
    first_some (missing_value_of (g.L.Look.content l.front) l.path l.stage.staged) l.refs ≡ first_some (missing_value_of (g.L.Look.content l.front) l.path l.stage.staged) (drop l.update-index l.refs)
