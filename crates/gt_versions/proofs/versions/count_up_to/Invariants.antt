use Rattle.std.proofs.Common.{◌≡◌, ℕ, ◌≤◌, ◌-◌, length, nat_le, true, false}
use Rattle.std.specs.List.{AllWithin}
use Rattle.gt_versions.proofs.versions.count_up_to.Given as goal

abbrev pub invariant-halves : goal.invariant-halves
invariant-halves g l = record {
  order : l.low ≤ l.high;
  bound : l.high ≤ length l.items;
  below : AllWithin (λ (e : ℕ × g.row.V.Denot). nat_le e.0 l.position ≡ true) l.items 0 l.low;
  above : AllWithin (λ (e : ℕ × g.row.V.Denot). nat_le e.0 l.position ≡ false) l.items l.high (length l.items);
}

abbrev pub decreases-halves : goal.decreases-halves
decreases-halves g l = l.high - l.low
