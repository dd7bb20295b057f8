use Rattle.std.proofs.Common.{◌≡◌, ◌++◌, drop, flat_map}
use Rattle.gt_apply.specs.Steps.{seen}
use Rattle.gt_moves.specs.Moves.{moves_by}
use Rattle.gt_moves.proofs.moving.add_entries.Given as goal

-- what was added, and what is left to add
abbrev pub invariant-loop-entry : goal.invariant-loop-entry
invariant-loop-entry l = l.moves ++ flat_map (moves_by l.number l.places) (seen (drop l.entry-index l.own)) ≡ l.initial.moves ++ flat_map (moves_by l.number l.places) (seen l.own)
