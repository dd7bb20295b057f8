use Rattle.std.proofs.Common.{length}
use Rattle.gt_pool.proofs.GatherLemmas.{IsGathering}
use Rattle.gt_pool.proofs.gathering.gathered.Given as goal

abbrev pub invariant-workers : goal.invariant-workers
invariant-workers g l = IsGathering l.claims l.fn.workers.items l.left l.claimer l.all l.kits

abbrev pub decreases-workers : goal.decreases-workers
decreases-workers g l = length l.left
