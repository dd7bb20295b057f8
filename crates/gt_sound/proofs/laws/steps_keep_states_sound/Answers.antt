use Rattle.gt_sound.proofs.Steps.{step_on_any_sound}
use Rattle.gt_sound.proofs.laws.steps_keep_states_sound.Goals as goal

pub returns : goal.returns
returns c = step_on_any_sound
