use Rattle.std.proofs.Common.{◌≡◌, ℕ, List, Option, ◌≤◌, ◌-◌, length, true, false}
use Rattle.std.specs.List.{AllWithin}
use Rattle.gt_slots.specs.Pages.{probe, is_before}
use Rattle.gt_slots.proofs.page.count_before.Given as goal

abbrev pub invariant-halves : goal.invariant-halves
invariant-halves l = record {
  order : l.low ≤ l.high;
  bound : l.high ≤ length l.slots;
  below : AllWithin (λ (e : List ℕ × (List (ℕ × Option (List ℕ)) × ℕ)). is_before e.0 (probe l.text l.slash) ≡ true) l.slots 0 l.low;
  above : AllWithin (λ (e : List ℕ × (List (ℕ × Option (List ℕ)) × ℕ)). is_before e.0 (probe l.text l.slash) ≡ false) l.slots l.high (length l.slots);
}

abbrev pub decreases-halves : goal.decreases-halves
decreases-halves l = l.high - l.low
