use Rattle.gt_ahead.proofs.Frame.{one_recovery, one_loads}
use Rattle.gt_ahead.proofs.laws.still_files_have_one_recovery.Goals as goal

pub returns-clause-one : goal.returns-clause-one
returns-clause-one c = one_recovery

pub returns-clause-loads : goal.returns-clause-loads
returns-clause-loads c = one_loads
