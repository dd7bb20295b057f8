use Rattle.std.proofs.Common.{length}
use Rattle.gt_pool.proofs.PlaceLemmas.{IsPlacing}
use Rattle.gt_pool.proofs.placing.place.Given as goal

abbrev pub invariant-pieces : goal.invariant-pieces
invariant-pieces g l = IsPlacing (g.W.Work.gives l._work) (length l.fn.slots.items) l.slots.items l.left

abbrev pub decreases-pieces : goal.decreases-pieces
decreases-pieces g l = length l.left
