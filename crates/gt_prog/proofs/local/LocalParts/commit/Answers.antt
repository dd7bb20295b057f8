use Rattle.gt_prog.proofs.Passes.{held_some, some_first, ended_seen}
use Rattle.gt_prog.proofs.local.LocalParts.commit.Goals as goal

pub commit-requires-clause-live : goal.commit-requires-clause-live
commit-requires-clause-live g c = held_some c.self.inside.partition c.args.self.now c.self.view_is c.args.partition c.args.pass.now c.requires.0

pub returns-clause-ended : goal.returns-clause-ended
returns-clause-ended g c =
    ended_seen c.self.inside.partition c.args.self.now c.self.view_is c.args.partition c.commit.result c.args.pass.now c.commit.new.pass c.commit.new.self.live (some_first c.args.partition c.args.pass.now c.args.self.now.live c.requires.0 c.requires.1) c.commit.ensures.ended c.requires.1
