use Rattle.std.proofs.Common.{◌≡◌, ◌≤◌, ◌/◌, ℕ, List, Option, length, sym, ◌∙◌, subst, arith}
use Rattle.gt_slots.proofs.PlaceLaws.{page_at}
use Rattle.gt_slots.proofs.EditLaws.{halved_ok}
use Rattle.gt_slots.proofs.inserting.split_half.Goals as goal

pub returns-clause-ok : goal.returns-clause-ok
returns-clause-ok c =
    let is = page_at c.args.pages.now.items c.args.at c.in-Some.lower.now c.requires.fits ∙ sym c.in-Some.ensures.value in
    let P : List (List ℕ × (List (ℕ × Option (List ℕ)) × ℕ)) → Type 0 = λ q. 2 ≤ length q in
    let l : 2 ≤ length c.in-Some.lower.now = subst P is c.requires.long in
    let n : c.len-half.result ≡ length c.in-Some.lower.now = c.len-half.ensures in
    halved_ok c.split.result c.args.at (c.len-half.result / 2) c.in-Some.lower.now c.split.new.self c.args.pages.now.items is c.requires.fits (omega (arith, l, n)) (omega (arith, l, n)) c.split.ensures.ok
