use Rattle.std.proofs.Common.{ℕ, List, Option, ◌+◌, ◌-◌, ◌/◌, ap, sym, ◌∙◌, arith}
use Rattle.gt_slots.specs.Pages.{probe, is_before}
use Rattle.gt_slots.proofs.SearchLaws.{low_half, high_half, slots_cut}
use Rattle.gt_slots.proofs.page.count_before.Goals as goal

pub halves-preserved-then-is_before : goal.halves-preserved-then-is_before
halves-preserved-then-is_before c =
    let t : List ℕ = probe c.args.text.now c.args.slash in
    record {
      order = omega arith;
      bound = c.halves.invariant.bound;
      below = low_half (λ (e : List ℕ × (List (ℕ × Option (List ℕ)) × ℕ)). is_before e.0 t) c.args.slots.now (slots_cut t c.args.slots.now c.requires) (c.halves.low + (c.halves.high - c.halves.low) / 2) c.index-slots-middle.result (omega arith) (ap (λ n. is_before n t) (sym c.bytes.ensures.text) ∙ sym c.is_before.ensures ∙ c.if-is_before.true);
      above = c.halves.invariant.above;
    }

pub halves-preserved : goal.halves-preserved
halves-preserved c =
    let t : List ℕ = probe c.args.text.now c.args.slash in
    record {
      order = omega arith;
      bound = omega arith;
      below = c.halves.invariant.below;
      above = high_half (λ (e : List ℕ × (List (ℕ × Option (List ℕ)) × ℕ)). is_before e.0 t) c.args.slots.now (slots_cut t c.args.slots.now c.requires) (c.halves.low + (c.halves.high - c.halves.low) / 2) c.index-slots-middle.result (omega arith) (ap (λ n. is_before n t) (sym c.bytes.ensures.text) ∙ sym c.is_before.ensures ∙ c.if-is_before.false);
    }

pub returns-clause-parts : goal.returns-clause-parts
returns-clause-parts c = (c.halves.invariant.below, λ k d low high. c.halves.invariant.above k d (omega arith) high)
