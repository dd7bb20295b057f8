use Rattle.std.proofs.Common.{nat_eq, length, sym, ap, ◌∙◌}
use Rattle.gt_slots.specs.Pages.{all}
use Rattle.gt_slots.proofs.ListLaws.{entries_sorted_of}
use Rattle.gt_slots.proofs.RaisingLaws.{no_page}
use Rattle.gt_slots.proofs.slots.Slots.is_empty.Goals as goal

pub returns : goal.returns
returns c = rw (← c.self.view_is) (
    c.is_empty.ensures
    ∙ ap (λ l. nat_eq (length l) 0) c.as_slice.ensures.value
    ∙ no_page c.self.inside.pages.items c.self.invariant.full
    ∙ sym (ap (λ l. nat_eq (length l) 0) (entries_sorted_of (all c.self.inside.pages.items) c.self.invariant.sorted)))
