use Rattle.std.proofs.Common.{◌∙◌, ℕ, List, ap, subst, sym}
use Rattle.gt_model.specs.Jobs.{IsPruned}
use Rattle.gt_plain_jobs.specs.Marking.{Pairs, unkept}
use Rattle.gt_plain_jobs.proofs.Pruning.{is_pruned}
use Rattle.gt_plain_jobs.proofs.prunes.pruned.Goals as goal

pub returns : goal.returns
returns c =
    let same =
    c.from_vec.ensures ∙ c.in_ok-dropped.ensures
    ∙ ap (λ (pairs : Pairs). unkept pairs c.deref-2.result.now) c.deref.ensures.value
    ∙ ap (λ (names : List (List ℕ)). unkept c.in_ok-pairs.pairs.items names) (c.deref-2.ensures.value ∙ c.in_ok-names.ensures) in
    subst (λ (names : List (List ℕ)). IsPruned c.args.content.now c.args.path.now names) (sym same) (is_pruned c.args.content.now c.args.path.now c.in_ok-pairs.pairs.items c.in_ok-pairs.ensures)
