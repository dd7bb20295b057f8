use Rattle.std.proofs.Common.{◌≡◌, drop}
use Rattle.gt_model.specs.Verdicts.{first_some}
use Rattle.gt_verify.specs.Checks.{missing_dep_of}
use Rattle.gt_verify.proofs.missing.find_all_deps.Given as goal

abbrev pub invariant-loop-needing : goal.invariant-loop-needing
invariant-loop-needing g l =
    first_some (missing_dep_of (g.L.Look.content l.front) l.path l.stage.staged) l.records ≡ first_some (missing_dep_of (g.L.Look.content l.front) l.path l.stage.staged) (drop l.needing-index l.records)
