use Rattle.gt_prog.proofs.Passes.{held_live}
use Rattle.gt_prog.proofs.local.LocalParts.list_refs.Goals as goal

pub list_refs-requires : goal.list_refs-requires
list_refs-requires g c = held_live c.self.inside.partition c.args.self.now c.self.view_is c.args.partition c.args.pass.now c.requires
