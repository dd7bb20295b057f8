use Rattle.std.proofs.Common.{ℕ, List, inl, inr, ap, ◌∙◌}
use Rattle.gt_model.specs.Contents.{with_refs}
use Rattle.gt_model.specs.Verdicts.{refs_in}
use Rattle.gt_verify.specs.Checks.{directory_of}
use Rattle.gt_verify.specs.Folders.{has_name}
use Rattle.gt_verify.specs.Refusing.{refusal_of}
use Rattle.gt_verify.proofs.ClashLaws.{lays, passes, fails}
use Rattle.gt_verify.proofs.directory.find_clashes.Goals as goal

pub returns-in-Err : goal.returns-in-Err
returns-in-Err g c =
    let refs = refs_in (g.L.Look.content c.args.front.now) c.args.path.now in
    let laid = with_refs refs c.args.refs.now in
    let alike = λ (q : List ℕ). ap (λ (l : List (List ℕ)). has_name l q) c.into_list-gone.ensures.value ∙ c.in_ok-of.ensures q in
    let each = lays c.args.refs.now refs c.into_list-gone.result c.in_ok-moved_names.field-0.items c.in_ok-targets.targets c.in_ok-target_names.field-0.items c.requires alike c.in_ok-moved_names.ensures c.in_ok-targets.ensures c.in_ok-target_names.ensures in
    elim (c.in-Err.ensures laid each) [
      | inl m ↦ inl m
      | inr s ↦ inr (fails (directory_of laid) c.args.refs.now c.loop-update.update-index c.update-item.result (refusal_of c.in-Err.e) c.loop-update-test.true c.update-item.is s c.loop-update.invariant)
    ]

pub loop-update-preserved : goal.loop-update-preserved
loop-update-preserved g c =
    let refs = refs_in (g.L.Look.content c.args.front.now) c.args.path.now in
    let laid = with_refs refs c.args.refs.now in
    let alike = λ (q : List ℕ). ap (λ (l : List (List ℕ)). has_name l q) c.into_list-gone.ensures.value ∙ c.in_ok-of.ensures q in
    let each = lays c.args.refs.now refs c.into_list-gone.result c.in_ok-moved_names.field-0.items c.in_ok-targets.targets c.in_ok-target_names.field-0.items c.requires alike c.in_ok-moved_names.ensures c.in_ok-targets.ensures c.in_ok-target_names.ensures in
    passes (directory_of laid) c.args.refs.now c.loop-update.update-index c.update-item.result c.loop-update-test.true c.update-item.is (c.in_default.ensures laid each) c.loop-update.invariant
