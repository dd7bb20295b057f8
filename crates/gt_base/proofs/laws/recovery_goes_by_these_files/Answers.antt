use Rattle.std.proofs.Common.{ap}
use Rattle.gt_reading.proofs.Programs.{agree}
use Rattle.gt_base.specs.Recovery.{recovery, all_recovered}
use Rattle.gt_base.proofs.laws.recovery_goes_by_these_files.Goals as goal

pub returns : goal.returns
returns c limits a b same = let both = agree (recovery limits) a b same in (ap all_recovered both.0, both.1)
