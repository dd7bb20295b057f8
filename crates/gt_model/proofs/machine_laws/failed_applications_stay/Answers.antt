use Rattle.gt_model.proofs.Faults.{stays}
use Rattle.gt_model.proofs.machine_laws.failed_applications_stay.Goals as goal

pub returns : goal.returns
returns c limits old new n clear flat step =
    let s = stays limits old new n clear flat step in
    (s.applied, s.epoch, s.log, s.pins, s.floor)
