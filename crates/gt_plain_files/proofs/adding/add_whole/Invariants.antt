use Rattle.std.proofs.Common.{◌≡◌, ◌++◌, drop, flat_map}
use Rattle.gt_model.specs.NamedFiles.{entry_files}
use Rattle.gt_plain_files.proofs.adding.add_whole.Given as goal

-- what was added, and what is left to add
abbrev pub invariant-loop-entry : goal.invariant-loop-entry
invariant-loop-entry l = l.files.items ++ flat_map entry_files (drop l.entry-index l.entries) ≡ l.initial.files.items ++ flat_map entry_files l.entries
