use Rattle.gt_reftable.proofs.RaisingLaws.{agrees_raised}
use Rattle.gt_reftable.proofs.laws.raised_tables_agree.Goals as goal

pub returns : goal.returns
returns c = agrees_raised
