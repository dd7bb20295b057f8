use Rattle.std.proofs.Common.{◌∙◌, ap}
use Rattle.gt_slots.specs.Pages.{probe, is_before}
use Rattle.gt_slots.proofs.PlaceLaws.{ends_last}
use Rattle.gt_slots.proofs.page.ends_before.Goals as goal

pub returns-in-Some : goal.returns-in-Some
returns-in-Some c = c.is_before.ensures ∙ ap (λ n. is_before n (probe c.args.text.now c.args.slash)) c.bytes.ensures.text ∙ ends_last (probe c.args.text.now c.args.slash) c.args.slots.now c.in-Some.slot.now c.in-Some.ensures.value
