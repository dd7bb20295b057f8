use Rattle.gt_versions.proofs.RaisedLaws.{drop-ascending}
use Rattle.gt_versions.proofs.raising.Versions+bool.raise_lives.Goals as goal

pub invariant_of-self : goal.invariant_of-self
invariant_of-self c = rw c.drop_front.ensures.items (drop-ascending c.lives_from-count.result c.self.inside.items.items c.self.invariant)
