use Rattle.std.proofs.Common.{◌≡◌, ◌++◌, flat_map}
use Rattle.gt_model.specs.NamedFiles.{shelf_files}
use Rattle.gt_plain_files.proofs.shelves.add_all.Given as goal

-- what was added, and what is left to add
abbrev pub invariant-loop-path : goal.invariant-loop-path
invariant-loop-path l = l.files.items ++ flat_map (λ e. shelf_files e.1) l._path-iterator ≡ l.initial.files.items ++ flat_map (λ e. shelf_files e.1) l.tree.entries
