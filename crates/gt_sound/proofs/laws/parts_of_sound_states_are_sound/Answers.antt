use Rattle.gt_sound.proofs.Steps.{part_sound}
use Rattle.gt_sound.proofs.laws.parts_of_sound_states_are_sound.Goals as goal

pub returns : goal.returns
returns c = part_sound
