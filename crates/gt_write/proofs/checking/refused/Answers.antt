use Rattle.std.proofs.Common.{inl, inr, Err, sym, ap, ◌∙◌}
use Rattle.gt_model.specs.declared.refusal.Refusal.{Refusal}
use Rattle.gt_write.proofs.Refusals.{checked_by}
use Rattle.gt_write.proofs.checking.refused.Goals as goal
use Rattle.gt_write.proofs.checking.refused.Goals.{in-Memory, in_default}

pub returns : goal.returns
returns c = λ limits front content path staged said.
    elim said [
      | inl memory ↦ elim c.match-matches.branch [
        | in-Memory w ↦ absurd (cc (w.matches-is, c.if-matches.false))
        | in_default w ↦ absurd (w.in_default.not-Memory memory)
      ]
      | inr is ↦ checked_by limits front content path staged c.from.result _ (is ∙ ap (λ (r : Refusal). Err r) (sym c.from.ensures)) c.refused_by.ensures
    ]
