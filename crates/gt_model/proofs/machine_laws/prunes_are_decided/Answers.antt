use Rattle.gt_model.proofs.Units.{pruned_once, units_once}
use Rattle.gt_model.proofs.machine_laws.prunes_are_decided.Goals as goal

pub returns-clause-dropped : goal.returns-clause-dropped
returns-clause-dropped c = pruned_once

pub returns-clause-units : goal.returns-clause-units
returns-clause-units c = units_once
