use Rattle.std.proofs.Common.{List, Option, Ok, inl, inr, sym, ap, ◌∙◌}
use Rattle.gt_model.specs.declared.refusal.Refusal.{Refusal}
use Rattle.gt_model.specs.declared.update.RefUpdate.{RefUpdate}
use Rattle.gt_model.specs.Verdicts.{first_some}
use Rattle.gt_verify.specs.declared.needing.Needing.{Needing}
use Rattle.gt_verify.specs.Checks.{all_needing, missing_dep_of, needed_of, unless_failed, ready}
use Rattle.gt_verify.proofs.Outcome.{missing_is, needed_is}
use Rattle.gt_verify.proofs.deciding.check_records.Goals as goal

pub returns-in-Err : goal.returns-in-Err
returns-in-Err g c =
    let content = g.L.Look.content c.args.front.now in
    let path = c.args.path.now in
    let staged = c.args.stage.now.staged in
    let made = c.in_ok-records.ensures ∙ ap (all_needing staged.records) c.as_slice.ensures in
    elim c.in-Err.ensures [
      | inl m ↦ inl m
      | inr s ↦ inr (ap (λ (o : Option Refusal). unless_failed o (ready content path staged))
          (sym (missing_is content path staged c.in_ok-added.added c.in_ok-records.records c.in_ok-added.ensures made) ∙ ap (first_some (missing_dep_of content path staged)) (sym c.as_slice-2.ensures) ∙ s))
    ]

pub returns : goal.returns
returns g c =
    let content = g.L.Look.content c.args.front.now in
    let path = c.args.path.now in
    let staged = c.args.stage.now.staged in
    let made = c.in_ok-records.ensures ∙ ap (all_needing staged.records) c.as_slice.ensures in
    let needed = c.in_ok-needed.ensures ∙ ap (λ (us : List RefUpdate). needed_of content path staged us c.as_slice-4.result.now) (c.as_slice-3.ensures ∙ c.requires)
    ∙ ap (λ (ns : List Needing). needed_of content path staged staged.refs ns) c.as_slice-4.ensures
    ∙ needed_is content path staged c.in_ok-added.added c.in_ok-records.records c.in_ok-added.ensures made in
    ap (λ (o : Option Refusal). unless_failed o (ready content path staged))
    (sym (missing_is content path staged c.in_ok-added.added c.in_ok-records.records c.in_ok-added.ensures made) ∙ ap (first_some (missing_dep_of content path staged)) (sym c.as_slice-2.ensures) ∙ c.in_default.ensures)
    ∙ (λ i. Ok (record { refs = sym c.requires i; needed = sym needed i; added = sym c.in_ok-added.ensures i }))
