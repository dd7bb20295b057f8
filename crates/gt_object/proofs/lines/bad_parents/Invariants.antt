use Rattle.std.proofs.Common.{◌≤◌, ◌-◌, length}
use Rattle.std.specs.Prelude.{codes}
use Rattle.gt_object.specs.Lines.{line_at, more_parents, parent_ids}
use Rattle.gt_object.specs.Grammar.{fault}
use Rattle.gt_object.proofs.Loops.{Going}
use Rattle.gt_object.proofs.lines.bad_parents.Given as goal

abbrev pub invariant-parents : goal.invariant-parents
invariant-parents l = record { within : l.at ≤ length l.content; going : Going (more_parents l.content) (line_at (codes "parent ") l.content) (length l.content) l.at (fault (parent_ids l.content l.from)) }

abbrev pub decreases-parents : goal.decreases-parents
decreases-parents l = length l.content - l.at
