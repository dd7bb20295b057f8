use Rattle.std.proofs.Common.{◌≤◌, ◌-◌, length}
use Rattle.gt_object.specs.Trees.{more_entries, entry_at, tree_entries}
use Rattle.gt_object.specs.Grammar.{fault}
use Rattle.gt_object.proofs.Loops.{Going}
use Rattle.gt_object.proofs.tree.bad_tree.Given as goal

abbrev pub invariant-entries : goal.invariant-entries
invariant-entries l = record { within : l.at ≤ length l.content; going : Going (more_entries l.content) (entry_at l.content) (length l.content) l.at (fault (tree_entries l.content)) }

abbrev pub decreases-entries : goal.decreases-entries
decreases-entries l = length l.content - l.at
