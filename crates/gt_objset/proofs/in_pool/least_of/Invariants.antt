use Rattle.std.proofs.Common.{◌≡◌, find}
use Rattle.std.specs.BTreeMap as tree
use Rattle.gt_model.specs.Contents.{key_cmp, is_this}
use Rattle.gt_objset.specs.Places.{pool_in}
use Rattle.gt_objset.specs.Table.{head_in_slot}
use Rattle.gt_objset.proofs.in_pool.least_of.Given as goal

abbrev pub invariant-loop-path : goal.invariant-loop-path
invariant-loop-path l = find (λ q. is_this (pool_in (head_in_slot (tree.get key_cmp l.repos q) l.at)) l.pool) l.path-iterator ≡ find (λ q. is_this (pool_in (head_in_slot (tree.get key_cmp l.repos q) l.at)) l.pool) l.candidates.keys
