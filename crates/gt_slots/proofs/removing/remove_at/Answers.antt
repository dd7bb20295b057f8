use Rattle.std.proofs.Common.{◌≡◌, ◌≢◌, length, nat_eq, true, false, sym, ap, ◌∙◌, arith}
use Rattle.std.proofs.lemmas.Bool.Decides.{nat_tests}
use Rattle.gt_slots.specs.Pages.{page}
use Rattle.gt_slots.proofs.RemovalLaws.{page_inserts, page_well, slot_inserts, slot_well}
use Rattle.gt_slots.proofs.removing.remove_at.Goals as goal

pub returns-then-has_one-clause-well : goal.returns-then-has_one-clause-well
returns-then-has_one-clause-well c =
    let test : nat_eq (length (page c.args.pages.now.items c.args.place.page)) 1 ≡ true = ap (λ ps. nat_eq (length (page ps c.args.place.page)) 1) (sym c.as_slice.ensures.value) ∙ sym c.has_one.ensures ∙ c.if-has_one.true in
    let one : length (page c.args.pages.now.items c.args.place.page) ≡ 1 = grind (arith, nat_tests) in
    page_well c.args.pages.now.items c.remove_page.new.pages.items c.args.place.page c.args.place.slot c.requires.well c.requires.page_fits c.requires.slot_fits c.remove_page.ensures one

pub returns-then-has_one-clause-slots : goal.returns-then-has_one-clause-slots
returns-then-has_one-clause-slots c =
    let test : nat_eq (length (page c.args.pages.now.items c.args.place.page)) 1 ≡ true = ap (λ ps. nat_eq (length (page ps c.args.place.page)) 1) (sym c.as_slice.ensures.value) ∙ sym c.has_one.ensures ∙ c.if-has_one.true in
    let one : length (page c.args.pages.now.items c.args.place.page) ≡ 1 = grind (arith, nat_tests) in
    page_inserts c.args.pages.now.items c.remove_page.new.pages.items c.args.place.page c.args.place.slot c.requires.well c.requires.page_fits c.requires.slot_fits c.remove_page.ensures one

pub returns-else-has_one-clause-well : goal.returns-else-has_one-clause-well
returns-else-has_one-clause-well c =
    let test : nat_eq (length (page c.args.pages.now.items c.args.place.page)) 1 ≡ false = ap (λ ps. nat_eq (length (page ps c.args.place.page)) 1) (sym c.as_slice.ensures.value) ∙ sym c.has_one.ensures ∙ c.if-has_one.false in
    let more : length (page c.args.pages.now.items c.args.place.page) ≢ 1 = grind (arith, nat_tests) in
    slot_well c.args.pages.now.items c.remove_in_page.new.pages.items c.args.place.page c.args.place.slot c.requires.well c.requires.page_fits c.requires.slot_fits c.remove_in_page.ensures more

pub returns-else-has_one-clause-slots : goal.returns-else-has_one-clause-slots
returns-else-has_one-clause-slots c =
    slot_inserts c.args.pages.now.items c.remove_in_page.new.pages.items c.args.place.page c.args.place.slot c.requires.well c.requires.page_fits c.requires.slot_fits c.remove_in_page.ensures
