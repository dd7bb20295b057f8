use Rattle.std.proofs.Common.{◌≡◌, drop, map}
use Rattle.std.specs.FinMap as finite
use Rattle.gt_model.specs.Contents.{key_cmp}
use Rattle.gt_plain.specs.Plain.{with_missing}
use Rattle.gt_plain.proofs.needs.by_name.Given as goal

-- what is left leads to all
abbrev pub invariant-loop-item : goal.invariant-loop-item
invariant-loop-item l = with_missing (finite.from_entries {R = key_cmp} l.tree.entries) (map (λ a. (a.name, a)) (drop l.item-index l.records)) ≡ finite.from_entries (map (λ a. (a.name, a)) l.records)
