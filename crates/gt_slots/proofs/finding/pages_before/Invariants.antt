use Rattle.std.proofs.Common.{◌≡◌, ℕ, List, Option, ◌≤◌, ◌-◌, length, true, false}
use Rattle.std.specs.List.{AllWithin}
use Rattle.gt_slots.specs.Pages.{probe, ends_before}
use Rattle.gt_slots.proofs.finding.pages_before.Given as goal

abbrev pub invariant-halves : goal.invariant-halves
invariant-halves l = record {
  order : l.low ≤ l.high;
  bound : l.high ≤ length l.pages;
  below : AllWithin (λ (p : List (List ℕ × (List (ℕ × Option (List ℕ)) × ℕ))). ends_before (probe l.text l.slash) p ≡ true) l.pages 0 l.low;
  above : AllWithin (λ (p : List (List ℕ × (List (ℕ × Option (List ℕ)) × ℕ))). ends_before (probe l.text l.slash) p ≡ false) l.pages l.high (length l.pages);
}

abbrev pub decreases-halves : goal.decreases-halves
decreases-halves l = l.high - l.low
