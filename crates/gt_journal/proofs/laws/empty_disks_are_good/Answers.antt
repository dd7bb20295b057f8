use Rattle.gt_journal.proofs.Good.{empty_good}
use Rattle.gt_journal.proofs.laws.empty_disks_are_good.Goals as goal

pub returns : goal.returns
returns c limits = empty_good limits
