use Rattle.std.proofs.Common.{◌≡◌, List, Option, ℕ, length, ap, subst, arith}
use Rattle.gt_slots.specs.Pages.{IsPlace}
use Rattle.gt_slots.proofs.EditLaws.{all_before_end}
use Rattle.gt_slots.proofs.inserting.insert_in_order.Goals as goal

pub push_last-requires-clause-last : goal.push_last-requires-clause-last
push_last-requires-clause-last c =
    let T : List ℕ → Type 0 = λ t. IsPlace t c.as_slice.result.now c.find_place-place.result.page c.find_place-place.result.slot in
    let P : List (List (List ℕ × (List (ℕ × Option (List ℕ)) × ℕ))) → Type 0 = λ ps. IsPlace c.args.slot.0 ps c.find_place-place.result.page c.find_place-place.result.slot in
    let n : length c.as_slice-2.result.now ≡ length c.args.pages.now.items = ap length c.as_slice-2.ensures.value in
    let m = c.if-place-as_slice.false in
    all_before_end c.args.slot.0 c.args.pages.now.items c.find_place-place.result.page c.find_place-place.result.slot (subst P c.as_slice.ensures.value (subst T c.bytes.ensures.text c.find_place-place.ensures)) (omega (arith, n, m))
