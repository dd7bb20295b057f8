use Rattle.std.proofs.Common.{◌∙◌, ap, map as map_list}
use Rattle.std.specs.FinMap as map
use Rattle.gt_model.specs.Contents.{key_cmp}
use Rattle.gt_apply.specs.Plan.{numbers_of}
use Rattle.gt_apply.proofs.TreeLaws.{onto, onto-empty, onto-pop}
use Rattle.gt_apply.proofs.placing.tree_of.Goals as goal

pub loop-loose-init : goal.loop-loose-init
loop-loose-init c =
    ap (λ es. onto (map_list (λ x. (x.name, x.file)) c.args.list) (map.from_entries {R = key_cmp} es)) c.new-tree.ensures.empty ∙ onto-empty (map_list (λ x. (x.name, x.file)) c.args.list)

pub loop-loose-preserved : goal.loop-loose-preserved
loop-loose-preserved c =
    onto-pop (λ x. (x.name, x.file)) c.loop-loose.left c.pop.new.self c.in-Some.loose (map.from_entries {R = key_cmp} c.loop-loose.tree.entries) (map.from_entries c.put.new.tree.entries) (numbers_of c.args.list) c.in-Some.ensures c.in_ok-put.ensures c.loop-loose.invariant
