use Rattle.std.proofs.Common.{Result, inl, inr, sym, ap, ◌∙◌, subst}
use Rattle.gt_model.specs.declared.refusal.Refusal.{Refusal}
use Rattle.gt_model.specs.Verdicts.{Ready}
use Rattle.gt_verify.specs.Refusing.{refusal_of, IsVerdict}
use Rattle.gt_verify.specs.Checks.{refs_failure}
use Rattle.gt_verify.proofs.Outcome.{refused, passed}
use Rattle.gt_verify.proofs.deciding.verdict.Goals as goal

pub returns-in-Err-clause-is : goal.returns-in-Err-clause-is
returns-in-Err-clause-is g c =
    let content = g.L.Look.content c.args.front.now in
    let path = c.args.path.now in
    let staged = c.args.stage.now.staged in
    elim c.in-Err.ensures [
      | inl m ↦ inl m
      | inr s ↦ inr (refused content path staged (refusal_of c.in-Err.e) (sym c.has_repo.ensures ∙ c.if-not-has_repo.false)
          (ap (refs_failure content path staged) (sym (c.as_slice.ensures ∙ c.in_ok-refs.ensures)) ∙ s))
    ]

pub returns-clause-is : goal.returns-clause-is
returns-clause-is g c =
    let content = g.L.Look.content c.args.front.now in
    let path = c.args.path.now in
    let staged = c.args.stage.now.staged in
    subst (λ (v : Result Ready Refusal). IsVerdict v c.check_records.result)
    (passed content path staged (sym c.has_repo.ensures ∙ c.if-not-has_repo.false)
    (ap (refs_failure content path staged) (sym (c.as_slice.ensures ∙ c.in_ok-refs.ensures)) ∙ c.in_default.ensures))
    c.check_records.ensures
