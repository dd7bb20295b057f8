use Rattle.gt_reading.proofs.Programs.{agree}
use Rattle.gt_reading.proofs.laws.programs_go_by_what_they_ask.Goals as goal

pub returns : goal.returns
returns c = agree
