use Rattle.gt_objset.proofs.MovedLaws.{moved_kept, repoints}
use Rattle.gt_objset.proofs.objset.ObjSet.repoint.Goals as goal

pub invariant_of-self : goal.invariant_of-self
invariant_of-self c = moved_kept c.self.inside.floor c.args.at c.args.path.now c.args.name.now c.args.place c.self.inside.repos.entries c.repoint_repo.new.repos.entries c.repoint_repo.ensures.here c.repoint_repo.ensures.others c.self.inside.front c.self.inside.members.entries c.self.invariant

pub returns : goal.returns
returns c =
    let low = rw (← c.self.view_is) at c.requires.from in
    rw (← c.self.view_is) (repoints c.self.inside.floor c.args.at c.args.path.now c.args.name.now c.args.place c.self.inside.repos.entries c.repoint_repo.new.repos.entries c.repoint_repo.ensures.here c.repoint_repo.ensures.others c.self.inside.front c.self.inside.members.entries c.self.inside.head c.self.inside.puts low)
