use Rattle.gt_name.proofs.LawsLemmas.{less_where_differ, less_where_shorter}
use Rattle.gt_name.proofs.laws.law_byte_order.Goals as goal

pub returns-clause-differ : goal.returns-clause-differ
returns-clause-differ c = less_where_differ

pub returns-clause-shorter : goal.returns-clause-shorter
returns-clause-shorter c = less_where_shorter
