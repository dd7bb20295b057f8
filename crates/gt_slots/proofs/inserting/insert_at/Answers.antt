use Rattle.std.proofs.Common.{◌<◌, length, List, Option, ℕ, sym, ◌∙◌, subst, arith}
use Rattle.gt_slots.proofs.PlaceLaws.{page_at}
use Rattle.gt_slots.proofs.EditLaws.{well_after, inserts_after}
use Rattle.gt_slots.proofs.inserting.insert_at.Goals as goal

pub insert-requires : goal.insert-requires
insert-requires c =
    let is = page_at c.args.pages.now.items c.args.place.page c.in-Some.found.now c.requires.fits ∙ sym c.in-Some.ensures.value in
    let P : List (List ℕ × (List (ℕ × Option (List ℕ)) × ℕ)) → Type 0 = λ q. c.args.place.slot < length q in
    let l : c.args.place.slot < length c.in-Some.found.now = subst P is (c.requires.place.lands c.requires.fits) in
    omega (arith, l)

pub returns-clause-well : goal.returns-clause-well
returns-clause-well c =
    well_after c.insert.result c.args.pages.now.items c.args.place.page c.args.place.slot c.args.slot.0 c.args.slot.1 c.in-Some.found.now c.insert.new.self (page_at c.args.pages.now.items c.args.place.page c.in-Some.found.now c.requires.fits ∙ sym c.in-Some.ensures.value) c.requires.well c.requires.place c.requires.fits c.requires.new c.requires.room c.insert.ensures.ok c.insert.ensures.err

pub returns-clause-ok : goal.returns-clause-ok
returns-clause-ok c = inserts_after c.insert.result c.args.pages.now.items c.args.place.page c.args.place.slot c.args.slot c.in-Some.found.now c.insert.new.self (page_at c.args.pages.now.items c.args.place.page c.in-Some.found.now c.requires.fits ∙ sym c.in-Some.ensures.value) c.requires.fits c.insert.ensures.ok
