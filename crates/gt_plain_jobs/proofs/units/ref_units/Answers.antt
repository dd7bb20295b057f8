use Rattle.std.proofs.Common.{◌≡◌, ◌∙◌, ◌+◌, ℕ, List, subst, sum_by, IfOk}
use Rattle.gt_model.specs.Jobs.{tag_count}
use Rattle.gt_plain_jobs.proofs.units.ref_units.Goals as goal

pub returns : goal.returns
returns c =
    subst (λ (refs : List (List ℕ × List ℕ)). IfOk c.units_of.result (λ n. n ≡ sum_by (λ r. 1 + tag_count c.args.content.now c.args.path.now r.1) refs))
    (c.deref.ensures.value ∙ c.in_ok-refs.ensures) c.units_of.ensures
