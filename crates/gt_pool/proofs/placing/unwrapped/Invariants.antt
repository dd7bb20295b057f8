use Rattle.std.proofs.Common.{◌≡◌, ◌++◌, Some, map, reverse, length}
use Rattle.gt_pool.proofs.placing.unwrapped.Given as goal

abbrev pub invariant-slots : goal.invariant-slots
invariant-slots g l = l.left ++ map (λ p. Some p) (reverse l.pieces) ≡ l.fn.slots.items

abbrev pub decreases-slots : goal.decreases-slots
decreases-slots g l = length l.left
