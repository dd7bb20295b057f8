use Rattle.gt_sound.proofs.Steps.{may_recover_sound}
use Rattle.gt_sound.proofs.laws.openings_keep_states_sound.Goals as goal

pub returns : goal.returns
returns c = may_recover_sound
