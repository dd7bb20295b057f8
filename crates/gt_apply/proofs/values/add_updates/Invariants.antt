use Rattle.std.proofs.Common.{◌≡◌, drop, fold}
use Rattle.std.specs.FinMap as map
use Rattle.gt_model.specs.Contents.{key_cmp}
use Rattle.gt_apply.specs.Plan.{with_update}
use Rattle.gt_apply.proofs.values.add_updates.Given as goal

-- what is left leads to the same
abbrev pub invariant-loop-update : goal.invariant-loop-update
invariant-loop-update l = fold with_update (map.from_entries {R = key_cmp} l.tree.entries) (drop l.update-index l.updates) ≡ fold with_update (map.from_entries l.initial.tree.entries) l.updates
