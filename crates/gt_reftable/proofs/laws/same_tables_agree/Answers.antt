use Rattle.gt_reftable.proofs.AgreeLaws.{agrees_same}
use Rattle.gt_reftable.proofs.laws.same_tables_agree.Goals as goal

pub returns : goal.returns
returns c = agrees_same
