use Rattle.std.proofs.Common.{◌≡◌, drop, map}
use Rattle.std.specs.FinMap as finite
use Rattle.gt_model.specs.Contents.{key_cmp}
use Rattle.gt_plain.specs.Plain.{with_missing}
use Rattle.gt_plain.proofs.needs.names_tree.Given as goal

-- what is left leads to all
abbrev pub invariant-loop-name : goal.invariant-loop-name
invariant-loop-name l = with_missing (finite.from_entries {R = key_cmp} l.tree.entries) (map (λ name. (name, name)) (drop l.name-index l.names)) ≡ finite.from_entries (map (λ name. (name, name)) l.names)
