use Rattle.std.proofs.Common.{◌∙◌}
use Rattle.gt_session.specs.Pieces.{values_with}
use Rattle.gt_session.proofs.TableLaws.{values_all, values_end}
use Rattle.gt_session.proofs.listing.values_with.Goals as goal

pub returns : goal.returns
returns c =
    values_all c.args.prefix.now c.args.table.entries c.from_vec.result c.len.ensures.ordered
    (c.from_vec.ensures ∙ values_end c.args.prefix.now c.loop-name.name-iterator c.loop-name.values.items (values_with c.args.prefix.now c.args.table.entries) c.in-None.ensures.steps.0 c.loop-name.invariant)
