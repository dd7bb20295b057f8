use Rattle.std.proofs.Common.{◌<◌, ℕ, List, Option, length, drop, ap, sym, ◌∙◌, subst, arith}
use Rattle.gt_slots.proofs.PlaceLaws.{page_got, page_in, page_out}
use Rattle.gt_slots.proofs.ListLaws.{from_more, from_end, from_none}
use Rattle.gt_slots.proofs.listing.list_from.Goals as goal

pub returns-in_default : goal.returns-in_default
returns-in_default c = from_none c.args.start c.args.position c.args.prefix.now c.args.pages.now c.args.place.page c.args.place.slot c.args.out.now (page_out c.args.pages.now c.args.place.page c.in_default.ensures)

pub slots_from-requires : goal.slots_from-requires
slots_from-requires c =
    let P : List (List ℕ × (List (ℕ × Option (List ℕ)) × ℕ)) → Type 0 = λ q. c.args.place.slot < length q in
    let l : c.args.place.slot < length c.slots.result.now = subst P (page_got c.args.pages.now c.args.place.page c.in-Some.first.now c.in-Some.ensures ∙ sym c.slots.ensures) (c.requires.lands (page_in c.args.pages.now c.args.place.page c.in-Some.first.now c.in-Some.ensures)) in
    omega (arith, l)

pub pages_from-requires : goal.pages_from-requires
pages_from-requires c = let l : c.args.place.page < length c.args.pages.now = page_in c.args.pages.now c.args.place.page c.in-Some.first.now c.in-Some.ensures in omega (arith, l)

pub returns-in-Ok-true : goal.returns-in-Ok-true
returns-in-Ok-true c =
    let slots = c.slots_from.ensures ∙ ap (drop c.args.place.slot) (c.slots.ensures ∙ sym (page_got c.args.pages.now c.args.place.page c.in-Some.first.now c.in-Some.ensures)) in
    from_more c.args.start c.args.position c.args.prefix.now c.list_pages.result c.args.pages.now c.args.place.page c.args.place.slot c.slots_from.result.now c.pages_from.result.now c.args.out.now c.list_slots.new.out c.list_pages.new.out (page_in c.args.pages.now c.args.place.page c.in-Some.first.now c.in-Some.ensures) slots c.pages_from.ensures (sym c.in-Ok-true.ensures.more ∙ c.in-Ok-true.field-0-test) c.in-Ok-true.ensures.list c.list_pages.ensures

pub returns-in-Ok-false : goal.returns-in-Ok-false
returns-in-Ok-false c =
    let slots = c.slots_from.ensures ∙ ap (drop c.args.place.slot) (c.slots.ensures ∙ sym (page_got c.args.pages.now c.args.place.page c.in-Some.first.now c.in-Some.ensures)) in
    from_end c.args.start c.args.position c.args.prefix.now c.args.pages.now c.args.place.page c.args.place.slot c.slots_from.result.now c.args.out.now c.list_slots.new.out (page_in c.args.pages.now c.args.place.page c.in-Some.first.now c.in-Some.ensures) slots (sym c.in-Ok-false.ensures.more ∙ c.in-Ok-false.field-0-test) c.in-Ok-false.ensures.list
