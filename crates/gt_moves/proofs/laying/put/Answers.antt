use Rattle.gt_versions.proofs.Keys.{inserted}
use Rattle.gt_moves.proofs.laying.put.Goals as goal

pub returns : goal.returns
returns c = inserted c.args.tree.now.entries c.insert.new.self.entries c.args.name c.args.len c.in_ok-insert.ensures.updates.0
