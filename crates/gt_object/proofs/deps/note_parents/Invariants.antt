use Rattle.std.proofs.Common.{◌≤◌, ◌-◌, length}
use Rattle.std.specs.Prelude.{codes}
use Rattle.gt_object.specs.Agrees.{Agrees}
use Rattle.gt_object.specs.Lines.{line_at, more_parents}
use Rattle.gt_object.specs.Mentions.{noted}
use Rattle.gt_object.proofs.Noting.{Doing}
use Rattle.gt_object.proofs.deps.note_parents.Given as goal

abbrev pub invariant-parents : goal.invariant-parents
invariant-parents l = record { within : l.at ≤ length l.content; agrees : Agrees l.set l.names; doing : Doing (more_parents l.content) (line_at (codes "parent ") l.content) (length l.content) noted l.from l.fn.names l.at l.names }

abbrev pub decreases-parents : goal.decreases-parents
decreases-parents l = length l.content - l.at
