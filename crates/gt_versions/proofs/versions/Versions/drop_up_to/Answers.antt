use Rattle.gt_versions.proofs.RaisedLaws.{drop-ascending}
use Rattle.gt_versions.proofs.versions.Versions.drop_up_to.Goals as goal

pub invariant_of-self : goal.invariant_of-self
invariant_of-self g c = rw c.drop_front.ensures.items (drop-ascending c.past_from-count.result c.self.inside.items.items c.self.invariant)
