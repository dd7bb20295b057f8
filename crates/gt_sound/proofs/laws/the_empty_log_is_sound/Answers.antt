use Rattle.gt_sound.proofs.Logs.{empty_sound}
use Rattle.gt_sound.proofs.laws.the_empty_log_is_sound.Goals as goal

pub returns : goal.returns
returns c = empty_sound
