use Rattle.std.proofs.Common.{◌≡◌, ◌-◌, length, nat_lt, true, sym, ap, ◌∙◌, arith}
use Rattle.std.proofs.lemmas.Bool.Decides.{nat_tests}
use Rattle.gt_slots.specs.Pages.{page, page_limit}
use Rattle.gt_slots.proofs.PlaceLaws.{page_got}
use Rattle.gt_slots.proofs.inserting.has_room_behind.Goals as goal

pub returns-in-Some-clause-room : goal.returns-in-Some-clause-room
returns-in-Some-clause-room c = λ test.
    let same : length (page c.args.pages.now (length c.args.pages.now - 1)) ≡ length c.in-Some.last.now = ap length (page_got c.args.pages.now (length c.args.pages.now - 1) c.in-Some.last.now c.in-Some.ensures.value) in
    let is : nat_lt (length c.in-Some.last.now) page_limit ≡ true = sym c.has_room.ensures ∙ test in
    grind (arith, nat_tests)
