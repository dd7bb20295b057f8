use Rattle.std.proofs.Common.{◌≡◌, ◌++◌}
use Rattle.gt_objset.proofs.merging.in_order.Given as goal

abbrev pub invariant-loop-name : goal.invariant-loop-name
invariant-loop-name l = l.names ++ l.name-iterator ≡ l.all.keys
