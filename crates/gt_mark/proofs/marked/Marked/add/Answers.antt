use Rattle.gt_mark.proofs.Pairs.{added, added_there}
use Rattle.gt_mark.proofs.marked.Marked.add.Goals as goal

pub returns-clause-finds : goal.returns-clause-finds
returns-clause-finds c = added c.self.inside.set.keys c.args.self.now c.insert.new.self.keys c.args.pair.now c.in_ok-clone.field-0 c.self.view_is c.in_ok-clone.ensures.cases c.in_ok-insert.ensures.keys

pub returns-clause-there : goal.returns-clause-there
returns-clause-there c = added_there c.self.inside.set.keys c.args.self.now c.insert.new.self.keys c.args.pair.now c.in_ok-clone.field-0 c.self.view_is c.in_ok-clone.ensures.cases c.in_ok-insert.ensures.keys
