use Rattle.std.proofs.Common.{◌≡◌, drop, fold}
use Rattle.gt_model.specs.NamedFiles.{filed}
use Rattle.gt_plain_files.proofs.placing.filed_each.Given as goal

-- what is left leads to the same
abbrev pub invariant-loop-entry : goal.invariant-loop-entry
invariant-loop-entry l = fold filed l.filing (drop l.entry-index l.entries) ≡ fold filed l.initial.filing l.entries
