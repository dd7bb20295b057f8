use Rattle.std.proofs.Common.{◌≡◌, length}
use Rattle.gt_session.specs.Courses.{as_names}
use Rattle.gt_session.specs.Pieces.{names_of}
use Rattle.gt_session.proofs.TableLaws.{over}
use Rattle.gt_session.proofs.listing.table_of.Given as goal

-- what is left, laid over the table, is the whole
abbrev pub invariant-loop-name : goal.invariant-loop-name
invariant-loop-name l = over l.list (names_of l.table.entries) ≡ as_names l.fn.list

abbrev pub decreases-loop-name : goal.decreases-loop-name
decreases-loop-name l = length l.list
