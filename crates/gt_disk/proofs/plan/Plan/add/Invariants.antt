use Rattle.std.proofs.Common.{◌≡◌, ◌≤◌, ◌+◌, ℕ, take}
use Rattle.std.specs.Ordering.{nat_cmp}
use Rattle.std.specs.BTreeMap as tree
use Rattle.gt_disk.specs.Plan.{listed}
use Rattle.gt_disk.proofs.plan.Plan.add.Given as goal

abbrev pub invariant-loop-fault : goal.invariant-loop-fault
invariant-loop-fault l = record {
  planned : (call : ℕ) → tree.get nat_cmp l.more call ≡ listed (take l.fault-index l.faults) call (tree.get nat_cmp l.self.faults call);
  len : tree.btree_map_len l.more ≤ tree.btree_map_len l.self.faults + l.fault-index;
}
