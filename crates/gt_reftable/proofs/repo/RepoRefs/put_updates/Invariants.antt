use Rattle.std.proofs.Common.{◌≡◌, ◌≤◌, ◌<◌, ℕ, List, drop, false}
use Rattle.std.specs.FinMap as map
use Rattle.gt_slots.specs.Slots.{items_of}
use Rattle.gt_reftable.specs.Tracks.{IsInStep, HasRoom, value_in, step_updates, is_named}
use Rattle.gt_reftable.proofs.repo.RepoRefs.put_updates.Given as goal

abbrev pub invariant-loop-update : goal.invariant-loop-update
invariant-loop-update l = record {
  newest : IsInStep l.position l.self;
  room : HasRoom l.position l.self (drop l.update-index l.updates);
  done : (p : ℕ) (x : List ℕ) → l.position ≤ p → step_updates (drop l.update-index l.updates) x (value_in l.self p x) ≡ step_updates l.updates x (value_in l.fn.self p x);
  earlier : (p : ℕ) (x : List ℕ) → p < l.position → value_in l.self p x ≡ value_in l.fn.self p x;
  others : (x : List ℕ) → is_named x l.updates ≡ false → items_of (map.get l.self.current x) ≡ items_of (map.get l.fn.self.current x);
}
