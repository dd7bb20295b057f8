use Rattle.std.proofs.Common.{◌≡◌, drop, flat_map}
use Rattle.std.specs.FinMap as map
use Rattle.gt_model.specs.Contents.{key_cmp, with_added}
use Rattle.gt_apply.specs.Plan.{added_by, records_of}
use Rattle.gt_apply.specs.Steps.{seen}
use Rattle.gt_apply.proofs.records.tree_of.Given as goal

-- what is left leads to the same
abbrev pub invariant-loop-entry : goal.invariant-loop-entry
invariant-loop-entry l = with_added (map.from_entries {R = key_cmp} l.tree.entries) (flat_map (λ e. added_by e.change) (seen (drop l.entry-index l.own))) ≡ records_of (seen l.own)
