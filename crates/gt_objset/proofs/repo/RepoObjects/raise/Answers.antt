use Rattle.gt_objset.proofs.RaisedLaws.{tree_raised}
use Rattle.gt_objset.proofs.repo.RepoObjects.raise.Goals as goal

pub returns : goal.returns
returns c = rw (← c.self.view_is) (tree_raised c.args.to c.self.inside.lives c.raise_lives.new.self c.self.inside.kinds c.raise_since.new.versions c.self.inside.pools c.raise_since-2.new.versions c.self.inside.objects.entries c.raise_slots.new.slots.entries c.lives_since-life.result
    c.lives_since-life.ensures c.law_order.ensures c.raise_lives.ensures.items c.raise_since.ensures c.raise_since-2.ensures c.raise_slots.ensures)
