use Rattle.std.proofs.Common.{◌≡◌, drop, flat_map, fold}
use Rattle.std.specs.FinMap as map
use Rattle.gt_model.specs.Contents.{key_cmp}
use Rattle.gt_apply.specs.Plan.{updates_by, with_update, values_of}
use Rattle.gt_apply.specs.Steps.{seen}
use Rattle.gt_apply.proofs.values.tree_of.Given as goal

-- what is left leads to the same
abbrev pub invariant-loop-entry : goal.invariant-loop-entry
invariant-loop-entry l = fold with_update (map.from_entries {R = key_cmp} l.tree.entries) (flat_map (λ e. updates_by e.change) (seen (drop l.entry-index l.own))) ≡ values_of (seen l.own)
