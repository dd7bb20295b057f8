use Rattle.gt_journal.proofs.Good.{stop_good}
use Rattle.gt_journal.proofs.laws.stops_leave_good_disks.Goals as goal

pub returns : goal.returns
returns c limits states image good left = stop_good limits states image good left
