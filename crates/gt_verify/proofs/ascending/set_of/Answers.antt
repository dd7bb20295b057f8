use Rattle.std.proofs.Common.{ℕ, List, take, sym, ap, ◌∙◌}
use Rattle.std.specs.BTreeSet.{insert_key}
use Rattle.gt_model.specs.Contents.{key_cmp}
use Rattle.gt_model.specs.Verdicts.{ascending}
use Rattle.gt_verify.proofs.Owning.{taken_item}
use Rattle.gt_verify.proofs.InOrder.{ascending-none, ascending-more}
use Rattle.gt_verify.proofs.ascending.set_of.Goals as goal

pub loop-name-init : goal.loop-name-init
loop-name-init c = c.new-set.ensures.empty ∙ sym ascending-none

pub loop-name-preserved : goal.loop-name-preserved
loop-name-preserved c =
    let done = take c.loop-name.name-index c.args.names.now in
    c.in-Ok.ensures.keys ∙ ap (λ (ks : List (List ℕ)). insert_key key_cmp ks c.name-item.result) c.loop-name.invariant
    ∙ sym (ascending-more done c.name-item.result) ∙ ap ascending (sym (taken_item c.args.names.now c.loop-name.name-index c.name-item.result c.loop-name-test.true c.name-item.is))
