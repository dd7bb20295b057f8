use Rattle.gt_pins.proofs.Numbers.{released_gone}
use Rattle.gt_pins.proofs.laws.released_pins_are_gone.Goals as goal

pub returns : goal.returns
returns c pins number = released_gone pins number
