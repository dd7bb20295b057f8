use Rattle.std.proofs.Common.{◌≡◌, ◌++◌, drop}
use Rattle.gt_objset.specs.Places.{gone}
use Rattle.gt_objset.proofs.plan.dropped_all.Given as goal

abbrev pub invariant-loop-name : goal.invariant-loop-name
invariant-loop-name l = l.puts ++ gone (drop l.name-index l.dropped) ≡ gone l.dropped
