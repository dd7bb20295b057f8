use Rattle.std.proofs.Common.{◌≡◌, drop}
use Rattle.gt_model.specs.Contents.{with_refs}
use Rattle.gt_model.specs.Verdicts.{first_some, refs_in}
use Rattle.gt_verify.specs.Checks.{directory_of}
use Rattle.gt_verify.proofs.directory.find_clashes.Given as goal

abbrev pub invariant-loop-update : goal.invariant-loop-update
invariant-loop-update g l =
    first_some (directory_of (with_refs (refs_in (g.L.Look.content l.front) l.path) l.refs)) l.refs ≡ first_some (directory_of (with_refs (refs_in (g.L.Look.content l.front) l.path) l.refs)) (drop l.update-index l.refs)
