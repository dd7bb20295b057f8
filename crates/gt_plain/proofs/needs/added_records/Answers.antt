use Rattle.std.proofs.Common.{◌≡◌, ◌∙◌, List, ap, subst, IfOk, filter, not}
use Rattle.std.specs.FinMap as finite
use Rattle.std.specs.FinMap.{FinMap}
use Rattle.gt_model.specs.declared.added.Added.{Added}
use Rattle.gt_model.specs.Contents.{key_cmp, is_visible}
use Rattle.gt_plain.proofs.Maps.{values_of}
use Rattle.gt_plain.proofs.needs.added_records.Goals as goal

pub returns : goal.returns
returns c =
    subst (λ (list : List Added). IfOk c.unseen.result (λ v. v.items ≡ filter (λ a. not (is_visible c.args.content.now c.args.path.now a.name)) list))
    (values_of c.in_ok-tree.tree.entries c.unseen.ensures.ordered ∙ ap (λ (m : FinMap key_cmp Added). finite.values m) c.in_ok-tree.ensures) c.unseen.ensures.unseen
