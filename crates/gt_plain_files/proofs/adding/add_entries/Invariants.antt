use Rattle.std.proofs.Common.{◌≡◌, ◌++◌, drop, map}
use Rattle.gt_model.specs.NamedFiles.{file}
use Rattle.gt_plain_files.proofs.adding.add_entries.Given as goal

-- what was added, and what is left to add
abbrev pub invariant-loop-entry : goal.invariant-loop-entry
invariant-loop-entry l = l.files.items ++ map (λ e. file 4 e.position) (drop l.entry-index l.entries) ≡ l.initial.files.items ++ map (λ e. file 4 e.position) l.entries
