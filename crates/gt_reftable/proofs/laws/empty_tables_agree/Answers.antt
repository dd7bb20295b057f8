use Rattle.gt_reftable.proofs.AgreeLaws.{agrees_empty}
use Rattle.gt_reftable.proofs.laws.empty_tables_agree.Goals as goal

pub returns : goal.returns
returns c = agrees_empty
