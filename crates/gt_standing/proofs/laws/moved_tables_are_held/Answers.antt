use Rattle.gt_standing.proofs.Chains.{all_agree, batch_moved, batch_held, all_stood}
use Rattle.gt_standing.proofs.Followed.{moved_follows}
use Rattle.gt_standing.proofs.laws.moved_tables_are_held.Goals as goal

pub returns-clause-agree : goal.returns-clause-agree
returns-clause-agree g c = all_agree

pub returns-clause-moved : goal.returns-clause-moved
returns-clause-moved g c = batch_moved

pub returns-clause-held : goal.returns-clause-held
returns-clause-held g c = λ h begin to n next base log entries old new follows legal built low are moves held all. batch_held begin to n next base log entries old new follows legal built low are moves (g.H.Holding.holds h) held all

pub returns-clause-follows : goal.returns-clause-follows
returns-clause-follows g c = moved_follows

pub returns-clause-stood : goal.returns-clause-stood
returns-clause-stood g c = λ h. all_stood (g.H.Holding.holds h)
