use Rattle.gt_reading.proofs.Framing.{answers_kept}
use Rattle.gt_base.specs.Recovery.{recovery}
use Rattle.gt_base.proofs.laws.calls_elsewhere_leave_recovery.Goals as goal

pub returns : goal.returns
returns c limits file v w touches unasked = answers_kept (recovery limits) file v w touches unasked
