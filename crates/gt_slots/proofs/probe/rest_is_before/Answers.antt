use Rattle.gt_slots.proofs.ProbeLaws.{rest_before}
use Rattle.gt_slots.proofs.probe.rest_is_before.Goals as goal

pub returns-in-Some : goal.returns-in-Some
returns-in-Some c = rest_before c.args.rest.now c.in-Some.byte.now c.in-Some.ensures.value
