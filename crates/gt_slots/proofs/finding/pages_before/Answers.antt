use Rattle.std.proofs.Common.{ℕ, List, ◌+◌, ◌-◌, ◌/◌, ap, sym, ◌∙◌, arith}
use Rattle.gt_slots.specs.Pages.{probe, ends_before}
use Rattle.gt_slots.proofs.SearchLaws.{low_half, high_half, pages_cut}
use Rattle.gt_slots.proofs.finding.pages_before.Goals as goal

pub halves-preserved-then-ends_before : goal.halves-preserved-then-ends_before
halves-preserved-then-ends_before c =
    let t : List ℕ = probe c.args.text.now c.args.slash in
    record {
      order = omega arith;
      bound = c.halves.invariant.bound;
      below = low_half (ends_before t) c.args.pages.now (pages_cut t c.args.pages.now c.requires) (c.halves.low + (c.halves.high - c.halves.low) / 2) c.index-pages-middle.result (omega arith) (sym (ap (ends_before t) c.index-pages-middle.is) ∙ ap (ends_before t) (sym c.slots.ensures) ∙ sym c.ends_before.ensures ∙ c.if-ends_before.true);
      above = c.halves.invariant.above;
    }

pub halves-preserved : goal.halves-preserved
halves-preserved c =
    let t : List ℕ = probe c.args.text.now c.args.slash in
    record {
      order = omega arith;
      bound = omega arith;
      below = c.halves.invariant.below;
      above = high_half (ends_before t) c.args.pages.now (pages_cut t c.args.pages.now c.requires) (c.halves.low + (c.halves.high - c.halves.low) / 2) c.index-pages-middle.result (omega arith) (sym (ap (ends_before t) c.index-pages-middle.is) ∙ ap (ends_before t) (sym c.slots.ensures) ∙ sym c.ends_before.ensures ∙ c.if-ends_before.false);
    }
