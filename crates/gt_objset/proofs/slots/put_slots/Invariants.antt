use Rattle.std.proofs.Common.{◌≡◌, ℕ, List, drop, None}
use Rattle.std.specs.BTreeMap as tree
use Rattle.gt_model.specs.Contents.{key_cmp}
use Rattle.gt_versions.specs.Versions.{IsUpTo}
use Rattle.gt_objset.specs.Places.{last_put}
use Rattle.gt_objset.specs.Track.{items_of, HasSlots, put_if}
use Rattle.gt_objset.proofs.slots.put_slots.Given as goal

abbrev pub invariant-loop-put : goal.invariant-loop-put
invariant-loop-put l = record {
  upto : (x : List ℕ) → IsUpTo l.position (items_of (tree.get key_cmp l.slots x));
  room : HasSlots l.position (λ x. tree.get key_cmp l.slots x) (drop l.put-index l.puts);
  done : (x : List ℕ) → put_if l.position (last_put (drop l.put-index l.puts) x None) (items_of (tree.get key_cmp l.slots x)) ≡ put_if l.position (last_put l.puts x None) (items_of (tree.get key_cmp l.fn.slots x));
}
