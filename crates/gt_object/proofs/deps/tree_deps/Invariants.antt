use Rattle.std.proofs.Common.{◌≤◌, ◌-◌, length}
use Rattle.gt_object.specs.Agrees.{Agrees}
use Rattle.gt_object.proofs.Noting.{TreeDoing}
use Rattle.gt_object.proofs.deps.tree_deps.Given as goal

abbrev pub invariant-entries : goal.invariant-entries
invariant-entries l = record { within : l.at ≤ length l.content; agrees : Agrees l.set l.names; doing : TreeDoing l.content l.at l.names }

abbrev pub decreases-entries : goal.decreases-entries
decreases-entries l = length l.content - l.at
