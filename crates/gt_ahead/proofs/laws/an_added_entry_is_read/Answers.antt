use Rattle.gt_ahead.proofs.Added.{adds_on}
use Rattle.gt_ahead.proofs.laws.an_added_entry_is_read.Goals as goal

pub returns : goal.returns
returns c = adds_on
