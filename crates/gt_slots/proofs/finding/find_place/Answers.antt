use Rattle.std.proofs.Common.{ℕ, List, Option, T, sym, ◌∙◌, subst}
use Rattle.std.specs.FinMap.{is_sorted}
use Rattle.gt_model.specs.Contents.{key_cmp}
use Rattle.gt_slots.specs.Pages.{probe}
use Rattle.gt_slots.proofs.PlaceLaws.{place_end, place_in, page_got, page_in, page_out, sorted_page}
use Rattle.gt_slots.proofs.finding.find_place.Goals as goal

pub count_before-slot-requires : goal.count_before-slot-requires
count_before-slot-requires c =
    let is = page_got c.args.pages.now c.pages_before-page.result c.in-Some.found.now c.in-Some.ensures in
    let P : List (List ℕ × (List (ℕ × Option (List ℕ)) × ℕ)) → Type 0 = λ q. T (is_sorted key_cmp q) in
    subst P (is ∙ sym c.slots.ensures) (sorted_page c.args.pages.now c.pages_before-page.result c.requires.sorted)

pub returns-in-None : goal.returns-in-None
returns-in-None c = place_end (probe c.args.text.now c.args.slash) c.args.pages.now c.pages_before-page.result c.requires c.pages_before-page.ensures.bound (page_out c.args.pages.now c.pages_before-page.result c.in-None.ensures) c.pages_before-page.ensures.parts

pub returns-in-Some : goal.returns-in-Some
returns-in-Some c =
    let is = page_got c.args.pages.now c.pages_before-page.result c.in-Some.found.now c.in-Some.ensures in
    place_in (probe c.args.text.now c.args.slash) c.args.pages.now c.pages_before-page.result c.count_before-slot.result c.slots.result.now c.requires (page_in c.args.pages.now c.pages_before-page.result c.in-Some.found.now c.in-Some.ensures) (is ∙ sym c.slots.ensures) c.pages_before-page.ensures.parts c.count_before-slot.ensures.bound c.count_before-slot.ensures.parts
