use Rattle.std.proofs.Common.{◌≡◌, ◌+◌, ◌++◌, drop, flat_map, length}
use Rattle.gt_model.specs.Batches.{files_at}
use Rattle.gt_moves.specs.Moves.{moves_all}
use Rattle.gt_moves.proofs.moving.add_paths.Given as goal

-- what was added, and what is left to add; the files that were counted, and those that are left
abbrev pub invariant-loop-path : goal.invariant-loop-path
invariant-loop-path l = record {
  moves : l.moves ++ moves_all l.entries l.next (drop l.path-index l.paths) ≡ l.initial.moves ++ moves_all l.entries l.number l.paths;
  next : l.next + length (flat_map (λ path. files_at path l.entries) (drop l.path-index l.paths)) ≡ l.number + length (flat_map (λ path. files_at path l.entries) l.paths);
}
