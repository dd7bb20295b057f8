use Rattle.std.proofs.Common.{◌≤◌, ◌-◌, length}
use Rattle.gt_real.proofs.filling.fill.Given as goal

-- the count is within the buffer
abbrev pub invariant-pieces : goal.invariant-pieces
invariant-pieces g l = l.count ≤ length l.into

abbrev pub decreases-pieces : goal.decreases-pieces
decreases-pieces g l = length l.initial.into - l.count
