use Rattle.std.proofs.Common.{◌≡◌, length, map as map_list}
use Rattle.std.specs.FinMap as map
use Rattle.gt_model.specs.Contents.{key_cmp}
use Rattle.gt_apply.specs.Plan.{numbers_of}
use Rattle.gt_apply.proofs.TreeLaws.{onto}
use Rattle.gt_apply.proofs.placing.tree_of.Given as goal

-- what is left, over what is there
abbrev pub invariant-loop-loose : goal.invariant-loop-loose
invariant-loop-loose l = onto (map_list (λ x. (x.name, x.file)) l.left) (map.from_entries {R = key_cmp} l.tree.entries) ≡ numbers_of l.initial.left

abbrev pub decreases-loop-loose : goal.decreases-loop-loose
decreases-loop-loose l = length l.left
