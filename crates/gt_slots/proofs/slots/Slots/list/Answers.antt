use Rattle.std.proofs.Common.{ℕ, List, Option, ◌++◌, ap, sym, ◌∙◌, subst}
use Rattle.gt_slots.specs.Pages.{rest, IsPlace}
use Rattle.gt_slots.specs.Listing.{taken, values_of}
use Rattle.gt_slots.proofs.ListLaws.{listed}
use Rattle.gt_slots.proofs.slots.Slots.list.Goals as goal

pub returns : goal.returns
returns c =
    let P : List (List (List ℕ × (List (ℕ × Option (List ℕ)) × ℕ))) → Type 0 = λ ps. IsPlace c.args.prefix.now ps c.find_place-place.result.page c.find_place-place.result.slot in
    rw (← c.self.view_is) (
    c.in_default.ensures
    ∙ ap (λ l. l ++ values_of c.args.start c.args.position (taken c.args.prefix.now (rest c.as_slice-pages.result.now c.find_place-place.result.page c.find_place-place.result.slot))) c.new-out.ensures
    ∙ ap (λ ps. values_of c.args.start c.args.position (taken c.args.prefix.now (rest ps c.find_place-place.result.page c.find_place-place.result.slot))) c.as_slice-pages.ensures.value
    ∙ sym (listed c.args.start c.args.position c.args.prefix.now c.self.inside.pages.items c.find_place-place.result.page c.find_place-place.result.slot c.self.invariant (subst P c.as_slice-pages.ensures.value c.find_place-place.ensures)))
