use Rattle.gt_reftable.proofs.AgreeLaws.{agrees_more}
use Rattle.gt_reftable.proofs.laws.tables_follow_their_log.Goals as goal

pub returns : goal.returns
returns c = agrees_more
