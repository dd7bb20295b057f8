use Rattle.std.proofs.Common.{◌≡◌, ◌++◌, drop}
use Rattle.gt_moves.specs.Laying.{spaced}
use Rattle.gt_moves.proofs.laying.spaced.Given as goal

-- what was placed, and what is left to place
abbrev pub invariant-loop-item : goal.invariant-loop-item
invariant-loop-item l = l.places ++ spaced l.next (drop l.item-index l.lengths) ≡ spaced 8 l.lengths
