use Rattle.std.proofs.Common.{◌≡◌, ◌<◌, ℕ, List, Option, IsTrue, length, slice_index_or, sym, ◌∙◌, subst}
use Rattle.gt_versions.specs.Versions.{IsUpTo, ready, put_at}
use Rattle.gt_slots.proofs.PlaceLaws.{page_at}
use Rattle.gt_slots.proofs.EntryLaws.{edits_at, moved}
use Rattle.gt_slots.proofs.editing.put_at.Goals as goal

pub put-requires-clause-fits : goal.put-requires-clause-fits
put-requires-clause-fits c =
    let P : List (List ℕ × (List (ℕ × Option (List ℕ)) × ℕ)) → Type 0 = λ q. c.args.place.slot < length q in
    subst P (page_at c.args.pages.now.items c.args.place.page c.in-Some.found.now c.requires.page_fits ∙ sym c.in-Some.ensures.value) c.requires.slot_fits

pub put-requires-clause-after : goal.put-requires-clause-after
put-requires-clause-after c =
    let P : List (List ℕ × (List (ℕ × Option (List ℕ)) × ℕ)) → Type 0 = λ q. (d : List ℕ × (List (ℕ × Option (List ℕ)) × ℕ)) → IsUpTo c.args.position (slice_index_or q c.args.place.slot d).1.0 in
    subst P (page_at c.args.pages.now.items c.args.place.page c.in-Some.found.now c.requires.page_fits ∙ sym c.in-Some.ensures.value) c.requires.after

pub put-requires-clause-room : goal.put-requires-clause-room
put-requires-clause-room c =
    let P : List (List ℕ × (List (ℕ × Option (List ℕ)) × ℕ)) → Type 0 = λ q. (d : List ℕ × (List (ℕ × Option (List ℕ)) × ℕ)) → IsTrue (ready c.args.position (slice_index_or q c.args.place.slot d).1) in
    subst P (page_at c.args.pages.now.items c.args.place.page c.in-Some.found.now c.requires.page_fits ∙ sym c.in-Some.ensures.value) c.requires.room

pub returns-clause-same : goal.returns-clause-same
returns-clause-same c =
    edits_at c.args.pages.now.items c.args.place.page c.args.place.slot c.in-Some.found.now c.put.new.self c.requires.page_fits (page_at c.args.pages.now.items c.args.place.page c.in-Some.found.now c.requires.page_fits ∙ sym c.in-Some.ensures.value) c.put.ensures.same

pub returns-clause-items : goal.returns-clause-items
returns-clause-items c =
    let P : List (List ℕ × (List (ℕ × Option (List ℕ)) × ℕ)) → List (List ℕ × (List (ℕ × Option (List ℕ)) × ℕ)) → Type 0 = λ p q. (d : List ℕ × (List (ℕ × Option (List ℕ)) × ℕ)) → (slice_index_or q c.args.place.slot d).1.0 ≡ put_at c.args.position c.args.value (slice_index_or p c.args.place.slot d).1.0 in
    moved P c.args.pages.now.items c.args.place.page c.in-Some.found.now c.put.new.self c.requires.page_fits (page_at c.args.pages.now.items c.args.place.page c.in-Some.found.now c.requires.page_fits ∙ sym c.in-Some.ensures.value) c.put.ensures.items
