use Rattle.std.proofs.Common.{◌≡◌, drop}
use Rattle.std.specs.FinMap as map
use Rattle.gt_model.specs.Contents.{key_cmp}
use Rattle.gt_moves.specs.Laying.{with_lengths}
use Rattle.gt_moves.proofs.laying.add_records.Given as goal

-- what is left leads to the same
abbrev pub invariant-loop-item : goal.invariant-loop-item
invariant-loop-item l = with_lengths (map.from_entries {R = key_cmp} l.tree.entries) (drop l.item-index l.added) ≡ with_lengths (map.from_entries l.initial.tree.entries) l.added
