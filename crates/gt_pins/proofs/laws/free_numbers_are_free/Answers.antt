use Rattle.gt_pins.proofs.Numbers.{free_number_free}
use Rattle.gt_pins.proofs.laws.free_numbers_are_free.Goals as goal

pub returns : goal.returns
returns c pins = free_number_free pins
