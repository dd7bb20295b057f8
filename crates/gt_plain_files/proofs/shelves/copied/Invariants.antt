use Rattle.std.proofs.Common.{◌≡◌}
use Rattle.std.specs.FinMap as map
use Rattle.gt_model.specs.Contents.{key_cmp}
use Rattle.gt_plain.specs.Plain.{with_missing}
use Rattle.gt_plain_files.proofs.shelves.copied.Given as goal

-- what is left leads to all
abbrev pub invariant-loop-path : goal.invariant-loop-path
invariant-loop-path l = with_missing (map.from_entries {R = key_cmp} l.copy.entries) l.path-iterator ≡ map.from_entries l.tree.entries
