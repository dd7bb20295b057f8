use Rattle.std.proofs.Common.{◌∙◌, ap}
use Rattle.gt_session.specs.Courses.{as_names}
use Rattle.gt_session.specs.Pieces.{names_of}
use Rattle.gt_session.proofs.TableLaws.{over, over-empty, over_less}
use Rattle.gt_session.proofs.listing.table_of.Goals as goal

pub loop-name-init : goal.loop-name-init
loop-name-init c = ap (λ entries. over c.args.list (names_of entries)) c.new-table.ensures.empty ∙ over-empty c.args.list

pub loop-name-preserved : goal.loop-name-preserved
loop-name-preserved c =
    over_less c.loop-name.list c.pop.new.self c.in-Some.field-0 (names_of c.loop-name.table.entries) (names_of c.insert_value.new.table.entries) (as_names c.args.list)
    c.in-Some.ensures c.in_default-insert_value.ensures c.loop-name.invariant
