use Rattle.std.proofs.Common.{◌-◌, ◌^◌}
use Rattle.gt_versions.proofs.RunLaws.{SoFar}
use Rattle.gt_versions.proofs.runs.Versions+Option+V.set_run.Given as goal

abbrev pub invariant-run : goal.invariant-run
invariant-run g l = SoFar l.floor l.position l.here l.value l.lives.0 l.fn.self.0 l.self.0

abbrev pub decreases-run : goal.decreases-run
decreases-run g l = 2 ^ 64 - l.here
