use Rattle.gt_model.proofs.Steps.{step_on_any_grows, step_on_any_acked}
use Rattle.gt_model.proofs.machine_laws.steps_only_grow.Goals as goal

pub returns-clause-order : goal.returns-clause-order
returns-clause-order c limits old new event answer order step = (step_on_any_grows limits old event answer new order step).order

pub returns-clause-log : goal.returns-clause-log
returns-clause-log c limits old new event answer order step =
    let g = step_on_any_grows limits old event answer new order step in
    (g.begin, g.base, (g.more, g.log))

pub returns-clause-acked : goal.returns-clause-acked
returns-clause-acked c limits old new event answer order step = step_on_any_acked limits old event answer new order step
