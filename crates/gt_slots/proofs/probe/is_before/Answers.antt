use Rattle.std.proofs.Common.{length, drop, codes, ap, sym, ◌∙◌, arith}
use Rattle.std.proofs.lemmas.List.{take_all, length-drop}
use Rattle.std.specs.Ordering.{is_lt}
use Rattle.gt_slots.specs.Pages.{probe, is_before}
use Rattle.gt_slots.proofs.ProbeLaws.{before_inside, before_outside}
use Rattle.gt_slots.proofs.probe.is_before.Goals as goal

pub returns-then-starts_with : goal.returns-then-starts_with
returns-then-starts_with c = c.rest_is_before.ensures ∙ ap (λ r. is_before r (codes "/")) (take_all _ (drop (length c.args.text.now) c.args.name.now) (omega (arith, length-drop (length c.args.text.now) c.args.name.now))) ∙ sym (before_inside c.args.name.now c.args.text.now (sym c.starts_with.ensures.value ∙ c.if-starts_with.true)) ∙ sym (ap (λ b. is_before c.args.name.now (probe c.args.text.now b)) c.if-not-slash.false)

pub returns-else-starts_with : goal.returns-else-starts_with
returns-else-starts_with c = c.is_lt-else-starts_with.ensures ∙ ap is_lt c.cmp-else-starts_with.ensures ∙ sym (before_outside c.args.name.now c.args.text.now (sym c.starts_with.ensures.value ∙ c.if-starts_with.false)) ∙ sym (ap (λ b. is_before c.args.name.now (probe c.args.text.now b)) c.if-not-slash.false)
