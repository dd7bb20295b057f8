use Rattle.gt_prog.proofs.Passes.{held_live}
use Rattle.gt_prog.proofs.local.LocalParts.get_ref.Goals as goal

pub get_ref-requires : goal.get_ref-requires
get_ref-requires g c = held_live c.self.inside.partition c.args.self.now c.self.view_is c.args.partition c.args.pass.now c.requires
