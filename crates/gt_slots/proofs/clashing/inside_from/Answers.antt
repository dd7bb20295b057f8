use Rattle.std.proofs.Common.{◌<◌, ◌++◌, ℕ, List, Option, length, drop, codes, ap, sym, ◌∙◌, subst, arith}
use Rattle.std.specs.Option.{option_copied}
use Rattle.gt_slots.proofs.PlaceLaws.{page_got, page_in, page_out}
use Rattle.gt_slots.proofs.SeekLaws.{from_found, from_next, from_out}
use Rattle.gt_slots.proofs.clashing.inside_from.Goals as goal

pub returns-in_default : goal.returns-in_default
returns-in_default c = from_out c.args.start c.args.position c.args.gone.now (c.args.folder.now ++ codes "/") c.args.pages.now c.args.place.page c.args.place.slot (page_out c.args.pages.now c.args.place.page c.in_default.ensures)

pub slots_from-requires : goal.slots_from-requires
slots_from-requires c =
    let P : List (List ℕ × (List (ℕ × Option (List ℕ)) × ℕ)) → Type 0 = λ q. c.args.place.slot < length q in
    let l : c.args.place.slot < length c.slots.result.now = subst P (page_got c.args.pages.now c.args.place.page c.in-Some.first.now c.in-Some.ensures ∙ sym c.slots.ensures) (c.requires.lands (page_in c.args.pages.now c.args.place.page c.in-Some.first.now c.in-Some.ensures)) in
    omega (arith, l)

pub pages_from-requires : goal.pages_from-requires
pages_from-requires c = let l : c.args.place.page < length c.args.pages.now = page_in c.args.pages.now c.args.place.page c.in-Some.first.now c.in-Some.ensures in omega (arith, l)

pub returns-in-Some-seek_slots : goal.returns-in-Some-seek_slots
returns-in-Some-seek_slots c =
    let slots = c.slots_from.ensures ∙ ap (drop c.args.place.slot) (c.slots.ensures ∙ sym (page_got c.args.pages.now c.args.place.page c.in-Some.first.now c.in-Some.ensures)) in
    from_found c.args.start c.args.position c.args.gone.now (c.args.folder.now ++ codes "/") c.args.pages.now c.args.place.page c.args.place.slot c.slots_from.result.now (option_copied c.in-Some-seek_slots.answer) (page_in c.args.pages.now c.args.place.page c.in-Some.first.now c.in-Some.ensures) slots c.in-Some-seek_slots.ensures

pub returns-in-None : goal.returns-in-None
returns-in-None c =
    let slots = c.slots_from.ensures ∙ ap (drop c.args.place.slot) (c.slots.ensures ∙ sym (page_got c.args.pages.now c.args.place.page c.in-Some.first.now c.in-Some.ensures)) in
    c.seek_pages.ensures ∙ from_next c.args.start c.args.position c.args.gone.now (c.args.folder.now ++ codes "/") c.args.pages.now c.args.place.page c.args.place.slot c.slots_from.result.now c.pages_from.result.now (page_in c.args.pages.now c.args.place.page c.in-Some.first.now c.in-Some.ensures) slots c.pages_from.ensures c.in-None.ensures
