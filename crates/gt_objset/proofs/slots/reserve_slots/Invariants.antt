use Rattle.std.proofs.Common.{ℕ, List, Option, drop}
use Rattle.std.specs.BTreeMap as tree
use Rattle.gt_model.specs.Contents.{key_cmp}
use Rattle.gt_objset.specs.declared.place.Place.{Place}
use Rattle.gt_objset.specs.Track.{AreRoomier, HasSlots}
use Rattle.gt_objset.proofs.slots.reserve_slots.Given as goal

abbrev pub invariant-loop-put : goal.invariant-loop-put
invariant-loop-put l = record {
  same : AreRoomier (λ x. tree.get key_cmp l.fn.slots x) (λ x. tree.get key_cmp l.slots x);
  done : (f : List ℕ → Option (List (ℕ × Option Place) × ℕ)) → AreRoomier (λ x. tree.get key_cmp l.slots x) f → (q : ℕ) → HasSlots q f (drop l.put-index l.puts) → HasSlots q f l.puts;
}
