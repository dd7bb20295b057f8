use Rattle.std.proofs.Common.{None, Some, refl, ap, ◌∙◌}
use Rattle.gt_versions.proofs.Keys.{at_key}
use Rattle.gt_slots.specs.Pages.{all}
use Rattle.gt_slots.proofs.SlotLaws.{found}
use Rattle.gt_slots.proofs.slots.Slots.value.Goals as goal

pub returns-in-None : goal.returns-in-None
returns-in-None c =
    let slot = c.in-None.ensures.value ∙ ap (λ t. at_key (all c.as_slice.result.now) t) c.bytes.ensures.text ∙ ap (λ ps. at_key (all ps) c.args.name.now) c.as_slice.ensures.value in
    rw (← c.self.view_is) (found (all c.self.inside.pages.items) c.args.start c.args.position c.args.name.now None None slot refl)

pub returns-in-Some : goal.returns-in-Some
returns-in-Some c =
    let slot = c.in-Some.ensures.value ∙ ap (λ t. at_key (all c.as_slice.result.now) t) c.bytes.ensures.text ∙ ap (λ ps. at_key (all ps) c.args.name.now) c.as_slice.ensures.value in
    rw (← c.self.view_is) (found (all c.self.inside.pages.items) c.args.start c.args.position c.args.name.now (Some c.in-Some.slot.now.1) c.copied.result slot (c.copied.ensures ∙ c.value_since.ensures))
