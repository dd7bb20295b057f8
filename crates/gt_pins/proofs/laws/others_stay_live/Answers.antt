use Rattle.gt_pins.proofs.Numbers.{others_stay}
use Rattle.gt_pins.proofs.laws.others_stay_live.Goals as goal

pub returns : goal.returns
returns c pins number other differ = others_stay pins number other differ
