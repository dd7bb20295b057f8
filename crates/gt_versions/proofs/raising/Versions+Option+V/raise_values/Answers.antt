use Rattle.gt_versions.proofs.RaisedLaws.{drop-ascending}
use Rattle.gt_versions.proofs.raising.Versions+Option+V.raise_values.Goals as goal

pub invariant_of-self : goal.invariant_of-self
invariant_of-self g c = rw c.drop_front.ensures.items (drop-ascending c.values_from-count.result c.self.inside.items.items c.self.invariant)
