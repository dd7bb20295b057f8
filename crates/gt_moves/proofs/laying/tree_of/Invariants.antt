use Rattle.std.proofs.Common.{◌≡◌, drop, flat_map}
use Rattle.std.specs.FinMap as map
use Rattle.gt_apply.specs.Plan.{added_by}
use Rattle.gt_apply.specs.Steps.{seen}
use Rattle.gt_model.specs.Contents.{key_cmp}
use Rattle.gt_moves.specs.Laying.{with_lengths, lengths_of}
use Rattle.gt_moves.proofs.laying.tree_of.Given as goal

-- what is left leads to the same
abbrev pub invariant-loop-entry : goal.invariant-loop-entry
invariant-loop-entry l = with_lengths (map.from_entries {R = key_cmp} l.tree.entries) (flat_map (λ e. added_by e.change) (seen (drop l.entry-index l.own))) ≡ lengths_of (seen l.own)
