use Rattle.gt_model.proofs.Faults.{stands}
use Rattle.gt_model.proofs.machine_laws.refusals_stand.Goals as goal

pub returns : goal.returns
returns c = stands
