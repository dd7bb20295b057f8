use Rattle.gt_session.proofs.TogetherLaws.{numbered_forgotten}
use Rattle.gt_session.proofs.together.Sessions.forget_all.Goals as goal

pub invariant_of-self : goal.invariant_of-self
invariant_of-self g c = numbered_forgotten c.self.inside.all.items c.forget_each.new.all.items c.self.invariant c.forget_each.ensures
