use Rattle.gt_ahead.proofs.Empty.{may_switch}
use Rattle.gt_ahead.proofs.examples.no_files_may_be_switched.Goals as goal

pub returns : goal.returns
returns c = may_switch
