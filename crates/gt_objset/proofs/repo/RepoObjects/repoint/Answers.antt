use Rattle.gt_objset.proofs.MovedLaws.{tree_moves}
use Rattle.gt_objset.proofs.repo.RepoObjects.repoint.Goals as goal

pub returns : goal.returns
returns c = rw (← c.self.view_is) (tree_moves c.self.inside.lives c.self.inside.kinds c.self.inside.pools c.self.inside.objects.entries c.move_slot.new.slots.entries c.args.floor c.args.at c.args.name.now c.args.place c.move_slot.ensures.here c.move_slot.ensures.others)
