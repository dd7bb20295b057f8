use Rattle.gt_ahead.proofs.MovedOn.{goes_on}
use Rattle.gt_ahead.proofs.laws.a_later_base_reads_on.Goals as goal

pub returns : goal.returns
returns c = goes_on
