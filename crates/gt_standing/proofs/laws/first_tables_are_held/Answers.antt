use Rattle.gt_standing.proofs.First.{first_held, first_moved}
use Rattle.gt_standing.proofs.Followed.{first_follows}
use Rattle.gt_standing.proofs.laws.first_tables_are_held.Goals as goal

pub returns-clause-held : goal.returns-clause-held
returns-clause-held g c = λ h begin base places t floor front placed held. first_held begin base places t floor front placed (g.H.Holding.holds h) held

pub returns-clause-moved : goal.returns-clause-moved
returns-clause-moved g c = first_moved

pub returns-clause-follows : goal.returns-clause-follows
returns-clause-follows g c = first_follows
