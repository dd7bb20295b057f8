use Rattle.std.proofs.Common.{length}
use Rattle.gt_pool.proofs.PlaceLemmas.{one_placed}
use Rattle.gt_pool.proofs.placing.place.Goals as goal

pub pieces-preserved : goal.pieces-preserved
pieces-preserved g c = one_placed (g.W.Work.gives c.args._work.now) (length c.args.slots.now.items) c.pieces.slots.items c.put_at.new.slots.items c.pieces.left c.pop.new.self c.in-Some.it c.in-Some.ensures c.put_at.ensures c.pieces.invariant
