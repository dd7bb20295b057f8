use Rattle.std.proofs.Common.{◌≡◌, ◌++◌, reverse, length}
use Rattle.gt_pool.proofs.turned.turned.Given as goal

abbrev pub invariant-items : goal.invariant-items
invariant-items g l = reverse l.fn.items ≡ l.list ++ reverse l.left

abbrev pub decreases-items : goal.decreases-items
decreases-items g l = length l.left
