use Rattle.gt_reading.proofs.Framing.{answers_kept}
use Rattle.gt_reading.proofs.laws.calls_elsewhere_leave_answers.Goals as goal

pub returns : goal.returns
returns c = answers_kept
