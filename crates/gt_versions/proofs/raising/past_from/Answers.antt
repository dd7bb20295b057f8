use Rattle.gt_versions.proofs.RaisedLaws.{past_here}
use Rattle.gt_versions.proofs.raising.past_from.Goals as goal

pub returns-clause-items : goal.returns-clause-items
returns-clause-items g c = past_here c.args.items.now c.args.to c.count_up_to.result c.count_up_to.ensures.bound c.count_up_to.ensures.parts
