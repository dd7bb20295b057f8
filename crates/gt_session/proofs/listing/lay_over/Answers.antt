use Rattle.std.proofs.Common.{sym}
use Rattle.gt_session.specs.Pieces.{names_of}
use Rattle.gt_session.proofs.TableLaws.{laid_more}
use Rattle.gt_session.proofs.listing.lay_over.Goals as goal

pub loop-i-preserved : goal.loop-i-preserved
loop-i-preserved c =
    laid_more c.args.stage.now.staged.refs c.loop-i.i (record { name = c.in-Some.name.now; old = c.in-Some.field-0-1; new = c.in-Some.new }) (names_of c.args.table.now.entries) (names_of c.loop-i.table.entries) (names_of c.set_value.new.table.entries)
    (sym c.in-Some.ensures) c.loop-i.invariant c.in_default-set_value.ensures
