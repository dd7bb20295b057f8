use Rattle.gt_reftable.proofs.TableLaws.{none_up}
use Rattle.gt_reftable.proofs.RefsLaws.{empty_table}
use Rattle.gt_reftable.proofs.table.RefTable.start.Goals as goal

pub invariant_of-result : goal.invariant_of-result
invariant_of-result c = none_up c.args.floor c.new.result.entries c.new.ensures.empty

pub returns : goal.returns
returns c = empty_table c.args.floor c.new.result.entries c.new.ensures.empty
