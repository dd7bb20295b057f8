use Rattle.gt_plain_machine.proofs.Ends.{ends_ok}
use Rattle.gt_plain_machine.proofs.state.PlainState.step.Goals as goal

pub returns-clause-ends : goal.returns-clause-ends
returns-clause-ends c = ends_ok c.end.result _ _ _ _ c.in-Ok.ensures c.end.ensures.ends
