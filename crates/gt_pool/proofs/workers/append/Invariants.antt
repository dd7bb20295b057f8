use Rattle.std.proofs.Common.{◌≡◌, ◌++◌, reverse, length}
use Rattle.gt_pool.proofs.workers.append.Given as goal

abbrev pub invariant-more : goal.invariant-more
invariant-more g l = l.all ++ reverse l.left ≡ l.fn.all ++ l.fn.more

abbrev pub decreases-more : goal.decreases-more
decreases-more g l = length l.left
