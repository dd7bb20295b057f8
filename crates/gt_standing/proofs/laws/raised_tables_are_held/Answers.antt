use Rattle.gt_standing.proofs.First.{raised_held, raised_moved}
use Rattle.gt_standing.proofs.Followed.{raised_follows}
use Rattle.gt_standing.proofs.laws.raised_tables_are_held.Goals as goal

pub returns-clause-held : goal.returns-clause-held
returns-clause-held g c = λ h begin to base log old new low raises held. raised_held begin to log old new low raises (g.H.Holding.holds h) base held

pub returns-clause-moved : goal.returns-clause-moved
returns-clause-moved g c = λ begin moved to log old new low raises h. raised_moved begin to log old new low raises moved h

pub returns-clause-follows : goal.returns-clause-follows
returns-clause-follows g c = λ begin to base log. raised_follows begin base to log
