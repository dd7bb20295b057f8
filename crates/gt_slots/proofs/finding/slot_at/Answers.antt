use Rattle.std.proofs.Common.{ap, sym, slice_get, ◌∙◌}
use Rattle.gt_slots.proofs.PlaceLaws.{page_got, page_out, page_end}
use Rattle.gt_slots.proofs.finding.slot_at.Goals as goal

pub returns-in-None : goal.returns-in-None
returns-in-None c = sym (ap (λ p. slice_get p c.args.place.slot) (page_end c.args.pages.now c.args.place.page (page_out c.args.pages.now c.args.place.page c.in-None.ensures)))

pub returns-in-Some : goal.returns-in-Some
returns-in-Some c = c.slot_of.ensures ∙ ap (λ p. slice_get p c.args.place.slot) (c.slots.ensures ∙ sym (page_got c.args.pages.now c.args.place.page c.in-Some.found.now c.in-Some.ensures))
