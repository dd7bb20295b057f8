use Rattle.std.proofs.Common.{◌≡◌, ◌<◌, ◌-◌, ℕ, suc, length, ap, sym, subst, ◌∙◌, arith}
use Rattle.gt_slots.specs.Pages.{page, page_limit}
use Rattle.gt_slots.proofs.PlaceLaws.{page_at}
use Rattle.gt_slots.proofs.EditLaws.{well_end, pushed_end}
use Rattle.gt_slots.proofs.inserting.push_in_last.Goals as goal

pub returns-clause-well : goal.returns-clause-well
returns-clause-well c =
    let n : length c.as_slice.result.now ≡ length c.args.pages.now.items = ap length c.as_slice.ensures.value in
    let some = c.requires.some in
    let l : length c.as_slice.result.now - 1 < length c.args.pages.now.items = omega (arith, n, some) in
    let m : suc (length c.as_slice.result.now - 1) ≡ length c.args.pages.now.items = omega (arith, n, some) in
    let P : ℕ → Type 0 = λ o. length (page c.args.pages.now.items (o - 1)) < page_limit in
    well_end c.insert.result c.args.pages.now.items (length c.as_slice.result.now - 1) c.len-end.result c.args.slot.0 c.args.slot.1 c.in-Some.last.now c.insert.new.self (page_at c.args.pages.now.items (length c.as_slice.result.now - 1) c.in-Some.last.now l ∙ sym c.in-Some.ensures.value) m c.len-end.ensures c.requires.well c.requires.last (subst P (sym n) c.requires.room) c.insert.ensures.ok c.insert.ensures.err

pub returns-clause-ok : goal.returns-clause-ok
returns-clause-ok c =
    let n : length c.as_slice.result.now ≡ length c.args.pages.now.items = ap length c.as_slice.ensures.value in
    let some = c.requires.some in
    let l : length c.as_slice.result.now - 1 < length c.args.pages.now.items = omega (arith, n, some) in
    let m : suc (length c.as_slice.result.now - 1) ≡ length c.args.pages.now.items = omega (arith, n, some) in
    pushed_end c.insert.result c.args.pages.now.items (length c.as_slice.result.now - 1) c.len-end.result c.args.slot c.in-Some.last.now c.insert.new.self (page_at c.args.pages.now.items (length c.as_slice.result.now - 1) c.in-Some.last.now l ∙ sym c.in-Some.ensures.value) m c.len-end.ensures c.insert.ensures.ok
