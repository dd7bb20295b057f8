use Rattle.gt_session.proofs.TogetherLaws.{forgotten_hold_nothing}
use Rattle.gt_session.proofs.laws.forgotten_sessions_hold_nothing.Goals as goal

pub returns : goal.returns
returns c = forgotten_hold_nothing
