use Rattle.std.proofs.Common.{◌≡◌, drop}
use Rattle.std.specs.FinMap as map
use Rattle.gt_model.specs.Contents.{key_cmp, with_added}
use Rattle.gt_apply.proofs.records.add_records.Given as goal

-- what is left leads to the same
abbrev pub invariant-loop-item : goal.invariant-loop-item
invariant-loop-item l = with_added (map.from_entries {R = key_cmp} l.tree.entries) (drop l.item-index l.added) ≡ with_added (map.from_entries l.initial.tree.entries) l.added
