use Rattle.std.proofs.Common.{◌≡◌, ◌<◌, ◌≤◌, ℕ, List, Option, length, slice_index_or, OnOk, sym, ◌∙◌, subst}
use Rattle.gt_slots.proofs.PlaceLaws.{page_at}
use Rattle.gt_slots.proofs.EntryLaws.{edits_at, moved}
use Rattle.gt_slots.proofs.editing.grow_at.Goals as goal

pub grow-requires : goal.grow-requires
grow-requires c =
    let P : List (List ℕ × (List (ℕ × Option (List ℕ)) × ℕ)) → Type 0 = λ q. c.args.place.slot < length q in
    subst P (page_at c.args.pages.now.items c.args.place.page c.in-Some.found.now c.requires.page_fits ∙ sym c.in-Some.ensures.value) c.requires.slot_fits

pub returns-clause-same : goal.returns-clause-same
returns-clause-same c =
    edits_at c.args.pages.now.items c.args.place.page c.args.place.slot c.in-Some.found.now c.grow.new.self c.requires.page_fits (page_at c.args.pages.now.items c.args.place.page c.in-Some.found.now c.requires.page_fits ∙ sym c.in-Some.ensures.value) c.grow.ensures.same

pub returns-clause-items : goal.returns-clause-items
returns-clause-items c =
    let P : List (List ℕ × (List (ℕ × Option (List ℕ)) × ℕ)) → List (List ℕ × (List (ℕ × Option (List ℕ)) × ℕ)) → Type 0 = λ p q. (d : List ℕ × (List (ℕ × Option (List ℕ)) × ℕ)) → (slice_index_or q c.args.place.slot d).1.0 ≡ (slice_index_or p c.args.place.slot d).1.0 in
    moved P c.args.pages.now.items c.args.place.page c.in-Some.found.now c.grow.new.self c.requires.page_fits (page_at c.args.pages.now.items c.args.place.page c.in-Some.found.now c.requires.page_fits ∙ sym c.in-Some.ensures.value) c.grow.ensures.items

pub returns-clause-kept : goal.returns-clause-kept
returns-clause-kept c =
    let P : List (List ℕ × (List (ℕ × Option (List ℕ)) × ℕ)) → List (List ℕ × (List (ℕ × Option (List ℕ)) × ℕ)) → Type 0 = λ p q. (d : List ℕ × (List (ℕ × Option (List ℕ)) × ℕ)) → (slice_index_or p c.args.place.slot d).1.1 ≤ (slice_index_or q c.args.place.slot d).1.1 in
    moved P c.args.pages.now.items c.args.place.page c.in-Some.found.now c.grow.new.self c.requires.page_fits (page_at c.args.pages.now.items c.args.place.page c.in-Some.found.now c.requires.page_fits ∙ sym c.in-Some.ensures.value) c.grow.ensures.kept

pub returns-clause-ok : goal.returns-clause-ok
returns-clause-ok c =
    let P : List (List ℕ × (List (ℕ × Option (List ℕ)) × ℕ)) → List (List ℕ × (List (ℕ × Option (List ℕ)) × ℕ)) → Type 0 = λ p q. OnOk c.grow.result ((d : List ℕ × (List (ℕ × Option (List ℕ)) × ℕ)) → 0 < (slice_index_or q c.args.place.slot d).1.1) in
    moved P c.args.pages.now.items c.args.place.page c.in-Some.found.now c.grow.new.self c.requires.page_fits (page_at c.args.pages.now.items c.args.place.page c.in-Some.found.now c.requires.page_fits ∙ sym c.in-Some.ensures.value) c.grow.ensures.ok
