use Rattle.gt_objset.proofs.AgreeLaws.{agrees_more, placed_more}
use Rattle.gt_objset.proofs.laws.tables_follow_their_logs.Goals as goal

pub returns-clause-agree : goal.returns-clause-agree
returns-clause-agree c = agrees_more

pub returns-clause-placed : goal.returns-clause-placed
returns-clause-placed c = λ old new base places log e h k a. placed_more old new base log e h a places k
