use Rattle.std.proofs.Common.{◌≡◌, length, vec_len, ap, sym, ◌∙◌, arith}
use Rattle.gt_slots.proofs.page.Page.remove.Goals as goal

pub remove-slot-requires : goal.remove-slot-requires
remove-slot-requires c =
    let fits = rw (← c.self.view_is) at c.requires in
    let same : length c.self.inside.slots.items ≡ vec_len c.self.inside.slots = ap length (sym c.as_slice-slots.ensures.value) ∙ c.as_slice-slots.ensures.len in
    omega (arith, fits, same)
