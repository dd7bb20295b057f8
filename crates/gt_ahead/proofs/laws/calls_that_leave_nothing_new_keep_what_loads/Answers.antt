use Rattle.gt_ahead.proofs.Counters.{narrowed}
use Rattle.gt_ahead.proofs.laws.calls_that_leave_nothing_new_keep_what_loads.Goals as goal

pub returns : goal.returns
returns c = narrowed
