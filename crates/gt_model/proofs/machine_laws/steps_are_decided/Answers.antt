use Rattle.gt_model.proofs.Decided.{step_once}
use Rattle.gt_model.proofs.Units.{units_once, drops_once}
use Rattle.gt_model.proofs.machine_laws.steps_are_decided.Goals as goal

pub returns : goal.returns
returns c = step_once units_once drops_once
