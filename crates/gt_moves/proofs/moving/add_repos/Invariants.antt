use Rattle.std.proofs.Common.{◌≡◌, ◌+◌, ◌++◌, drop, flat_map, length, map}
use Rattle.gt_apply.specs.Steps.{seen}
use Rattle.gt_model.specs.Batches.{files_of}
use Rattle.gt_moves.specs.Moves.{moves_in}
use Rattle.gt_moves.proofs.moving.add_repos.Given as goal

-- what was added, and what is left to add; the files that were counted, and those that are left
abbrev pub invariant-loop-own : goal.invariant-loop-own
invariant-loop-own l = record {
  moves : l.moves ++ moves_in l.next (map seen (drop l.own-index l.repos)) ≡ l.initial.moves ++ moves_in l.number (map seen l.repos);
  next : l.next + length (flat_map files_of (map seen (drop l.own-index l.repos))) ≡ l.number + length (flat_map files_of (map seen l.repos));
}
