use Rattle.gt_model.proofs.Sound.{way_visible}
use Rattle.gt_model.proofs.laws.what_is_reached_is_present.Goals as goal

pub returns : goal.returns
returns c c' path name sound reach = way_visible c' sound path name reach.0 reach.1
