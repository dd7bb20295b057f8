use Rattle.gt_prog.proofs.Passes.{held_live, held_first, gone_seen}
use Rattle.gt_prog.proofs.local.LocalParts.abort.Goals as goal

pub abort-requires : goal.abort-requires
abort-requires g c = held_live c.self.inside.partition c.args.self.now c.self.view_is c.args.partition c.args.pass c.requires

pub returns-clause-live : goal.returns-clause-live
returns-clause-live g c = gone_seen c.self.inside.partition c.args.self.now c.self.view_is c.args.partition c.abort.new.self.live c.args.pass (held_first c.args.partition c.args.pass c.args.self.now.live c.requires) c.abort.ensures.pins
