use Rattle.std.proofs.Common.{◌≡◌, None, replicate}
use Rattle.gt_pool.proofs.placing.blank.Given as goal

abbrev pub invariant-slots : goal.invariant-slots
invariant-slots g l = l.slots.items ≡ replicate l.counter None
