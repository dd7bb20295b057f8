use Rattle.std.proofs.Common.{◌∙◌, sym}
use Rattle.gt_table.proofs.LeftLaws.{left_all, follows, unmoved_first}
use Rattle.gt_table.proofs.table.Table.over.Goals as goal

pub seed_all-requires : goal.seed_all-requires
seed_all-requires c = left_all c.args.begin c.as_slice.result.now c.in-Ok.refs c.in-Ok-start.objects c.in-Ok.ensures c.in-Ok-start.ensures.floor c.in-Ok-start.ensures.empty c.in-Ok-start.ensures.placed

pub invariant_of-result : goal.invariant_of-result
invariant_of-result c =
    follows _ c.in-Ok.refs.floor c.as_slice.result.now c.new.ensures.log c.in-Ok.ensures.floor (c.as_slice.ensures ∙ sym c.of.ensures) c.new.ensures.gone c.in_default.ensures c.empty_tables_agree.ensures c.seeded_tables_agree.ensures.agree

pub returns-clause-unmoved : goal.returns-clause-unmoved
returns-clause-unmoved c =
    unmoved_first _ c.in-Ok.refs.floor c.as_slice.result.now c.new.ensures.log c.in-Ok.ensures.floor (c.as_slice.ensures ∙ sym c.of.ensures) c.new.ensures.gone c.in_default.ensures c.seeded_tables_agree.ensures.placed
