use Rattle.std.proofs.Common.{◌≡◌, ℕ, List, Option, length, slice_get, ap, subst, ◌∙◌, arith, ◌<◌, nat_lt, true, false, sym}
use Rattle.std.proofs.lemmas.Bool.Decides.{nat_tests}
use Rattle.gt_slots.specs.Pages.{page, page_limit, IsPlace}
use Rattle.gt_slots.proofs.PlaceLaws.{page_got, page_in, page_out}
use Rattle.gt_slots.proofs.RoomLaws.{room_behind, room_in, room_after}
use Rattle.gt_slots.proofs.inserting.make_room.Goals as goal

pub split_page-requires-clause-long : goal.split_page-requires-clause-long
split_page-requires-clause-long c =
    let is = page_got c.args.pages.now.items c.find_place-place.result.page c.in-Some.found.now (c.in-Some.ensures ∙ ap (λ ps. slice_get ps c.find_place-place.result.page) c.as_slice-2.ensures.value) in
    let same : length (page c.args.pages.now.items c.find_place-place.result.page) ≡ length c.in-Some.found.now = ap length is in
    let test : nat_lt (length c.in-Some.found.now) page_limit ≡ false = sym c.has_room.ensures ∙ c.if-has_room.false in
    grind (arith, nat_tests)

pub returns-in-None-clause-ok : goal.returns-in-None-clause-ok
returns-in-None-clause-ok c =
    let P : List (List (List ℕ × (List (ℕ × Option (List ℕ)) × ℕ))) → Type 0 = λ ps. IsPlace c.args.name.now ps c.find_place-place.result.page c.find_place-place.result.slot in
    room_behind c.args.name.now c.args.pages.now.items c.find_place-place.result.page c.find_place-place.result.slot (subst P c.as_slice.ensures.value c.find_place-place.ensures)
    (page_out c.args.pages.now.items c.find_place-place.result.page (c.in-None.ensures ∙ ap (λ ps. slice_get ps c.find_place-place.result.page) c.as_slice-2.ensures.value))

pub returns-then-has_room-clause-ok : goal.returns-then-has_room-clause-ok
returns-then-has_room-clause-ok c =
    let P : List (List (List ℕ × (List (ℕ × Option (List ℕ)) × ℕ))) → Type 0 = λ ps. IsPlace c.args.name.now ps c.find_place-place.result.page c.find_place-place.result.slot in
    let got = c.in-Some.ensures ∙ ap (λ ps. slice_get ps c.find_place-place.result.page) c.as_slice-2.ensures.value in
    let same : length (page c.args.pages.now.items c.find_place-place.result.page) ≡ length c.in-Some.found.now = ap length (page_got c.args.pages.now.items c.find_place-place.result.page c.in-Some.found.now got) in
    let test : nat_lt (length c.in-Some.found.now) page_limit ≡ true = sym c.has_room.ensures ∙ c.if-has_room.true in
    let less : length (page c.args.pages.now.items c.find_place-place.result.page) < page_limit = grind (arith, nat_tests) in
    room_in c.args.name.now c.args.pages.now.items c.find_place-place.result.page c.find_place-place.result.slot (subst P c.as_slice.ensures.value c.find_place-place.ensures)
    (page_in c.args.pages.now.items c.find_place-place.result.page c.in-Some.found.now got) less

pub returns-else-has_room-clause-ok : goal.returns-else-has_room-clause-ok
returns-else-has_room-clause-ok c =
    let P : List (List (List ℕ × (List (ℕ × Option (List ℕ)) × ℕ))) → Type 0 = λ ps. IsPlace c.args.name.now ps c.find_place-place.result.page c.find_place-place.result.slot in
    let got = c.in-Some.ensures ∙ ap (λ ps. slice_get ps c.find_place-place.result.page) c.as_slice-2.ensures.value in
    room_after c.split_page.result c.args.name.now c.args.pages.now.items c.split_page.new.pages.items c.find_place-place.result.page c.find_place-place.result.slot c.requires (subst P c.as_slice.ensures.value c.find_place-place.ensures)
    (page_in c.args.pages.now.items c.find_place-place.result.page c.in-Some.found.now got) c.split_page.ensures.ok
