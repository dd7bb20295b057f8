use Rattle.std.proofs.Common.{◌<◌, Option, IfSome, length, sym, ap, ◌∙◌, subst}
use Rattle.gt_versions.specs.Ascending.{IsAscending}
use Rattle.gt_versions.specs.Raised.{raised_values}
use Rattle.gt_versions.proofs.Keys.{get_key}
use Rattle.gt_slots.specs.Slots.{Slot, items_of}
use Rattle.gt_slots.specs.Pages.{all}
use Rattle.gt_slots.proofs.slots.Slots.raise.Goals as goal

pub returns : goal.returns
returns c =
    let es = all c.self.inside.pages.items in
    let fs = all c.raise_pages.new.pages.items in
    let left : Option Slot → Type 0 = λ o. IfSome o (λ s. 0 < length s.0) in
    let up : Option Slot → Type 0 = λ o. IsAscending (items_of o) in
    rw (← c.self.view_is) (record {
      items = λ x. ap items_of (get_key fs x) ∙ c.raise_pages.ensures.items x ∙ sym (ap (λ o. raised_values c.args.start c.args.to (items_of o)) (get_key es x));
      ascending = λ x. subst up (sym (get_key es x)) (c.raise_pages.ensures.ascending x);
      left = λ x. subst left (sym (get_key fs x)) (c.raise_pages.ensures.left x);
    })
