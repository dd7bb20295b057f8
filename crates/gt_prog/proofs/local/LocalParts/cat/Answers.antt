use Rattle.gt_prog.proofs.Passes.{held_live}
use Rattle.gt_prog.proofs.local.LocalParts.cat.Goals as goal

pub cat-requires : goal.cat-requires
cat-requires g c = held_live c.self.inside.partition c.args.self.now c.self.view_is c.args.partition c.args.pass.now c.requires
