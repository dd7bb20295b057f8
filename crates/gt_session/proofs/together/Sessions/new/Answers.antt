use Rattle.gt_session.proofs.TogetherLaws.{sessions_numbered}
use Rattle.gt_session.proofs.together.Sessions.new.Goals as goal

pub invariant_of-result : goal.invariant_of-result
invariant_of-result g c = sessions_numbered c.in-Ok.all.items c.in-Ok.ensures
