use Rattle.std.proofs.Common.{◌<◌, ℕ, List, Option, length, slice_set, ap, sym, ◌∙◌, subst}
use Rattle.std.specs.List.{remove}
use Rattle.gt_slots.proofs.PlaceLaws.{page_at}
use Rattle.gt_slots.proofs.removing.remove_in_page.Goals as goal

pub remove-requires : goal.remove-requires
remove-requires c =
    let P : List (List ℕ × (List (ℕ × Option (List ℕ)) × ℕ)) → Type 0 = λ q. c.args.place.slot < length q in
    subst P (page_at c.args.pages.now.items c.args.place.page c.in-Some.found.now c.requires.page_fits ∙ sym c.in-Some.ensures.value) c.requires.slot_fits

pub returns : goal.returns
returns c =
    let is = page_at c.args.pages.now.items c.args.place.page c.in-Some.found.now c.requires.page_fits ∙ sym c.in-Some.ensures.value in
    ap (slice_set c.args.pages.now.items c.args.place.page) (c.remove.ensures ∙ ap (λ q. remove q c.args.place.slot) (sym is))
