use Rattle.gt_versions.proofs.SetLaws.{set_ascending}
use Rattle.gt_versions.proofs.versions.Versions.set.Goals as goal

pub invariant_of-self : goal.invariant_of-self
invariant_of-self g c = rw c.set_last.ensures (set_ascending c.args.value c.self.inside.items.items c.args.position c.self.invariant)
