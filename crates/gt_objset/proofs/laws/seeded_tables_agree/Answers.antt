use Rattle.gt_objset.proofs.AgreeLaws.{seeded_agrees, seeded_placed}
use Rattle.gt_objset.proofs.laws.seeded_tables_agree.Goals as goal

pub returns-clause-agree : goal.returns-clause-agree
returns-clause-agree c = seeded_agrees

pub returns-clause-placed : goal.returns-clause-placed
returns-clause-placed c = seeded_placed
