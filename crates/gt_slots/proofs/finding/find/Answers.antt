use Rattle.std.proofs.Common.{None, Some, cond, ap, sym, ◌∙◌}
use Rattle.std.specs.Ordering.{is_eq}
use Rattle.gt_model.specs.Contents.{key_cmp}
use Rattle.gt_versions.proofs.Keys.{flip, key_cmp-IsAntisymmetric}
use Rattle.gt_slots.proofs.LookLaws.{is_eq-of, is_at, found_here, found_none}
use Rattle.gt_slots.proofs.finding.find.Goals as goal

pub returns-in-None-clause-none : goal.returns-in-None-clause-none
returns-in-None-clause-none c = found_none c.args.name.now c.args.pages.now c.find_place-place.result.page c.find_place-place.result.slot c.requires c.find_place-place.ensures c.in-None.ensures

pub returns-then-is_eq-clause-some : goal.returns-then-is_eq-clause-some
returns-then-is_eq-clause-some c =
    let same = ap is_eq (ap (λ n. key_cmp n c.args.name.now) (sym c.bytes.ensures.text) ∙ sym c.cmp.ensures) ∙ sym c.is_eq.ensures ∙ c.if-is_eq.true in
    is_at c.args.name.now c.args.pages.now c.find_place-place.result.page c.find_place-place.result.slot c.in-Some.slot.now c.find_place-place.ensures c.in-Some.ensures (key_cmp-IsAntisymmetric c.in-Some.slot.now.0 c.args.name.now (is_eq-of (key_cmp c.in-Some.slot.now.0 c.args.name.now) same))

pub returns-else-is_eq-clause-none : goal.returns-else-is_eq-clause-none
returns-else-is_eq-clause-none c =
    let off = ap is_eq (ap (λ n. key_cmp n c.args.name.now) (sym c.bytes.ensures.text) ∙ sym c.cmp.ensures) ∙ sym c.is_eq.ensures ∙ c.if-is_eq.false in
    found_here c.args.name.now c.args.pages.now c.find_place-place.result.page c.find_place-place.result.slot c.in-Some.slot.now c.requires c.find_place-place.ensures c.in-Some.ensures
    ∙ ap (λ b. cond b (Some c.in-Some.slot.now.1) None) (flip c.args.name.now c.in-Some.slot.now.0 ∙ off)
