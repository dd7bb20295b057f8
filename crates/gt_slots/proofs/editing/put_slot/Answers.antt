use Rattle.std.proofs.Common.{ℕ, List, Option, IsTrue, subst}
use Rattle.gt_versions.specs.Versions.{IsUpTo}
use Rattle.gt_slots.specs.Slots.{items_of, slot_ready}
use Rattle.gt_slots.specs.Pages.{IsAt}
use Rattle.gt_slots.proofs.EntryLaws.{at_place, edited_well, edited_others, put_here, put_some}
use Rattle.gt_slots.proofs.editing.put_slot.Goals as goal

pub put_at-requires-clause-after : goal.put_at-requires-clause-after
put_at-requires-clause-after c =
    let A : List (List (List ℕ × (List (ℕ × Option (List ℕ)) × ℕ))) → Type 0 = λ ps. IsAt c.bytes.result.now ps c.in-Some.place.page c.in-Some.place.slot in
    let B : List ℕ → Type 0 = λ t. IsAt t c.args.pages.now.items c.in-Some.place.page c.in-Some.place.slot in
    let at = subst B c.bytes.ensures.text (subst A c.as_slice.ensures.value c.in-Some.ensures.some) in
    let P : Option (List (ℕ × Option (List ℕ)) × ℕ) → Type 0 = λ s. IsUpTo c.args.position (items_of s) in
    at_place P c.args.name.now c.args.pages.now.items c.in-Some.place.page c.in-Some.place.slot c.requires.well at c.requires.after

pub put_at-requires-clause-room : goal.put_at-requires-clause-room
put_at-requires-clause-room c =
    let A : List (List (List ℕ × (List (ℕ × Option (List ℕ)) × ℕ))) → Type 0 = λ ps. IsAt c.bytes.result.now ps c.in-Some.place.page c.in-Some.place.slot in
    let B : List ℕ → Type 0 = λ t. IsAt t c.args.pages.now.items c.in-Some.place.page c.in-Some.place.slot in
    let at = subst B c.bytes.ensures.text (subst A c.as_slice.ensures.value c.in-Some.ensures.some) in
    let P : Option (List (ℕ × Option (List ℕ)) × ℕ) → Type 0 = λ s. IsTrue (slot_ready c.args.position s) in
    at_place P c.args.name.now c.args.pages.now.items c.in-Some.place.page c.in-Some.place.slot c.requires.well at c.requires.room

pub returns-clause-well : goal.returns-clause-well
returns-clause-well c =
    let A : List (List (List ℕ × (List (ℕ × Option (List ℕ)) × ℕ))) → Type 0 = λ ps. IsAt c.bytes.result.now ps c.in-Some.place.page c.in-Some.place.slot in
    let B : List ℕ → Type 0 = λ t. IsAt t c.args.pages.now.items c.in-Some.place.page c.in-Some.place.slot in
    let at = subst B c.bytes.ensures.text (subst A c.as_slice.ensures.value c.in-Some.ensures.some) in
    edited_well c.args.name.now c.args.pages.now.items c.put_at.new.pages.items c.in-Some.place.page c.in-Some.place.slot c.requires.well at c.put_at.ensures.same

pub returns-clause-here : goal.returns-clause-here
returns-clause-here c =
    let A : List (List (List ℕ × (List (ℕ × Option (List ℕ)) × ℕ))) → Type 0 = λ ps. IsAt c.bytes.result.now ps c.in-Some.place.page c.in-Some.place.slot in
    let B : List ℕ → Type 0 = λ t. IsAt t c.args.pages.now.items c.in-Some.place.page c.in-Some.place.slot in
    let at = subst B c.bytes.ensures.text (subst A c.as_slice.ensures.value c.in-Some.ensures.some) in
    put_here c.args.name.now c.args.pages.now.items c.put_at.new.pages.items c.in-Some.place.page c.in-Some.place.slot c.requires.well at c.put_at.ensures.same c.args.position c.args.value c.put_at.ensures.items

pub returns-clause-some : goal.returns-clause-some
returns-clause-some c =
    let A : List (List (List ℕ × (List (ℕ × Option (List ℕ)) × ℕ))) → Type 0 = λ ps. IsAt c.bytes.result.now ps c.in-Some.place.page c.in-Some.place.slot in
    let B : List ℕ → Type 0 = λ t. IsAt t c.args.pages.now.items c.in-Some.place.page c.in-Some.place.slot in
    let at = subst B c.bytes.ensures.text (subst A c.as_slice.ensures.value c.in-Some.ensures.some) in
    put_some c.args.name.now c.args.pages.now.items c.put_at.new.pages.items c.in-Some.place.page c.in-Some.place.slot c.requires.well at c.put_at.ensures.same

pub returns-clause-others : goal.returns-clause-others
returns-clause-others c =
    let A : List (List (List ℕ × (List (ℕ × Option (List ℕ)) × ℕ))) → Type 0 = λ ps. IsAt c.bytes.result.now ps c.in-Some.place.page c.in-Some.place.slot in
    let B : List ℕ → Type 0 = λ t. IsAt t c.args.pages.now.items c.in-Some.place.page c.in-Some.place.slot in
    let at = subst B c.bytes.ensures.text (subst A c.as_slice.ensures.value c.in-Some.ensures.some) in
    edited_others c.args.name.now c.args.pages.now.items c.put_at.new.pages.items c.in-Some.place.page c.in-Some.place.slot c.requires.well at c.put_at.ensures.same
