use Rattle.gt_standing.proofs.First.{left}
use Rattle.gt_standing.proofs.laws.moved_records_leave_their_entries.Goals as goal

pub returns : goal.returns
returns c = left
