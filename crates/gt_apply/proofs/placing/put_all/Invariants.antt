use Rattle.std.proofs.Common.{◌≡◌, ◌+◌, drop}
use Rattle.std.specs.FinMap as map
use Rattle.gt_model.specs.Contents.{key_cmp}
use Rattle.gt_apply.specs.Steps.{with_numbers}
use Rattle.gt_apply.proofs.placing.put_all.Given as goal

-- what is left leads to the same
abbrev pub invariant-loop-value : goal.invariant-loop-value
invariant-loop-value l = record {
  next : l.next ≡ l.number + l.value-index;
  left : with_numbers (map.from_entries {R = key_cmp} l.tree.entries) l.next (drop l.value-index l.values) ≡ with_numbers (map.from_entries l.initial.tree.entries) l.number l.values;
}
