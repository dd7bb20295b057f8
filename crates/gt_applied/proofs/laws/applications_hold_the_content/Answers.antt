use Rattle.gt_applied.proofs.Applications.{applied}
use Rattle.gt_applied.proofs.laws.applications_hold_the_content.Goals as goal

pub returns : goal.returns
returns c = applied
