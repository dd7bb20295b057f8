use Rattle.std.proofs.Common.{◌≡◌, ◌++◌, drop, map}
use Rattle.gt_moves.specs.Moves.{moved}
use Rattle.gt_moves.proofs.moving.add_records.Given as goal

-- what was added, and what is left to add
abbrev pub invariant-loop-item : goal.invariant-loop-item
invariant-loop-item l = l.moves ++ map (moved l.number l.places l.entry) (drop l.item-index l.added) ≡ l.initial.moves ++ map (moved l.number l.places l.entry) l.added
