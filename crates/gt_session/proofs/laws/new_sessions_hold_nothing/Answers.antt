use Rattle.gt_session.proofs.TogetherLaws.{new_hold_nothing}
use Rattle.gt_session.proofs.laws.new_sessions_hold_nothing.Goals as goal

pub returns : goal.returns
returns c = new_hold_nothing
