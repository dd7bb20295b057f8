use Rattle.std.proofs.Common.{◌≡◌, ℕ, List, Option, None, slice_index_or, ap, sym, ◌∙◌, subst}
use Rattle.gt_versions.proofs.Keys.{at_key}
use Rattle.gt_slots.specs.Pages.{all, page, IsAt}
use Rattle.gt_slots.proofs.EntryLaws.{some_entry}
use Rattle.gt_slots.proofs.RemovalLaws.{removed_at, removed_none}
use Rattle.gt_slots.proofs.removing.remove_slot.Goals as goal

pub returns-in_default-clause-slots : goal.returns-in_default-clause-slots
returns-in_default-clause-slots c = λ x.
    let none : at_key (all c.args.pages.now.items) c.args.name.now ≡ None =
    ap (λ ps. at_key (all ps) c.args.name.now) (sym c.as_slice.ensures.value) ∙ ap (at_key (all c.as_slice.result.now)) (sym c.bytes.ensures.text) ∙ c.in_default.ensures.none in
    removed_none c.args.name.now x (all c.args.pages.now.items) none

pub returns-clause-slots : goal.returns-clause-slots
returns-clause-slots c = λ x.
    let A : List (List (List ℕ × (List (ℕ × Option (List ℕ)) × ℕ))) → Type 0 = λ ps. IsAt c.bytes.result.now ps c.in-Some.place.page c.in-Some.place.slot in
    let B : List ℕ → Type 0 = λ t. IsAt t c.args.pages.now.items c.in-Some.place.page c.in-Some.place.slot in
    let at = subst B c.bytes.ensures.text (subst A c.as_slice.ensures.value c.in-Some.ensures.some) in
    let d = some_entry (page c.args.pages.now.items c.in-Some.place.page) c.in-Some.place.slot at.slot_fits in
    removed_at c.args.name.now x (slice_index_or (page c.args.pages.now.items c.in-Some.place.page) c.in-Some.place.slot d) (all c.remove_at.new.pages.items) (all c.args.pages.now.items)
    (at.key d) (c.remove_at.ensures.slots d) c.requires.sorted
