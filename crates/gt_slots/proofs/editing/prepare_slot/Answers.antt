use Rattle.std.proofs.Common.{ℕ, List, Option, ap, sym, subst, ◌∙◌}
use Rattle.gt_versions.proofs.Keys.{at_key}
use Rattle.gt_slots.specs.Pages.{all, IsAt}
use Rattle.gt_slots.proofs.EntryLaws.{edited_well, edited_others, grown_here, grown_kept, grown_ok}
use Rattle.gt_slots.proofs.SlotLaws.{roomier, roomier_new}
use Rattle.gt_slots.proofs.editing.prepare_slot.Goals as goal

pub returns-in-Some-clause-well : goal.returns-in-Some-clause-well
returns-in-Some-clause-well c =
    let A : List (List (List ℕ × (List (ℕ × Option (List ℕ)) × ℕ))) → Type 0 = λ ps. IsAt c.bytes.result.now ps c.in-Some.place.page c.in-Some.place.slot in
    let B : List ℕ → Type 0 = λ t. IsAt t c.args.pages.now.items c.in-Some.place.page c.in-Some.place.slot in
    let at = subst B c.bytes.ensures.text (subst A c.as_slice.ensures.value c.in-Some.ensures.some) in
    edited_well c.args.name.now c.args.pages.now.items c.grow_at.new.pages.items c.in-Some.place.page c.in-Some.place.slot c.requires at c.grow_at.ensures.same

pub returns-in-Some-clause-same : goal.returns-in-Some-clause-same
returns-in-Some-clause-same c =
    let A : List (List (List ℕ × (List (ℕ × Option (List ℕ)) × ℕ))) → Type 0 = λ ps. IsAt c.bytes.result.now ps c.in-Some.place.page c.in-Some.place.slot in
    let B : List ℕ → Type 0 = λ t. IsAt t c.args.pages.now.items c.in-Some.place.page c.in-Some.place.slot in
    let at = subst B c.bytes.ensures.text (subst A c.as_slice.ensures.value c.in-Some.ensures.some) in
    roomier (all c.args.pages.now.items) (all c.grow_at.new.pages.items) c.args.name.now
    (grown_here c.args.name.now c.args.pages.now.items c.grow_at.new.pages.items c.in-Some.place.page c.in-Some.place.slot c.requires at c.grow_at.ensures.same c.grow_at.ensures.items)
    (grown_kept c.args.name.now c.args.pages.now.items c.grow_at.new.pages.items c.in-Some.place.page c.in-Some.place.slot c.requires at c.grow_at.ensures.same c.grow_at.ensures.items c.grow_at.ensures.kept)
    (edited_others c.args.name.now c.args.pages.now.items c.grow_at.new.pages.items c.in-Some.place.page c.in-Some.place.slot c.requires at c.grow_at.ensures.same)

pub returns-in-Some-clause-ok : goal.returns-in-Some-clause-ok
returns-in-Some-clause-ok c =
    let A : List (List (List ℕ × (List (ℕ × Option (List ℕ)) × ℕ))) → Type 0 = λ ps. IsAt c.bytes.result.now ps c.in-Some.place.page c.in-Some.place.slot in
    let B : List ℕ → Type 0 = λ t. IsAt t c.args.pages.now.items c.in-Some.place.page c.in-Some.place.slot in
    let at = subst B c.bytes.ensures.text (subst A c.as_slice.ensures.value c.in-Some.ensures.some) in
    grown_ok c.args.name.now c.args.pages.now.items c.grow_at.new.pages.items c.in-Some.place.page c.in-Some.place.slot c.requires at c.grow_at.ensures.same c.grow_at.result c.grow_at.ensures.ok

pub returns-in-None-clause-same : goal.returns-in-None-clause-same
returns-in-None-clause-same c =
    let none = ap (λ ps. at_key (all ps) c.args.name.now) (sym c.as_slice.ensures.value) ∙ ap (at_key (all c.as_slice.result.now)) (sym c.bytes.ensures.text) ∙ c.in-None.ensures.none in
    roomier_new (all c.args.pages.now.items) (all c.add_slot.new.pages.items) c.args.name.now none c.add_slot.ensures.here c.add_slot.ensures.others
