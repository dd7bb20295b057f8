use Rattle.std.proofs.Common.{◌≡◌, ◌++◌, drop}
use Rattle.gt_objset.specs.Places.{placed}
use Rattle.gt_objset.proofs.plan.placed_all.Given as goal

abbrev pub invariant-loop-item : goal.invariant-loop-item
invariant-loop-item l = l.puts ++ placed l.number l.next (drop l.item-index l.added) ≡ placed l.number l.begin l.added
