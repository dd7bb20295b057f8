use Rattle.gt_model.proofs.Openings.{opening_order, may_recover_part}
use Rattle.gt_model.proofs.machine_laws.openings_are_parts.Goals as goal

pub returns-clause-order : goal.returns-clause-order
returns-clause-order c = opening_order

pub returns-clause-part : goal.returns-clause-part
returns-clause-part c = may_recover_part
