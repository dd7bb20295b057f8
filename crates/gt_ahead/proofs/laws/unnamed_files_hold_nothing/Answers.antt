use Rattle.gt_ahead.proofs.Numbers.{unnamed_apart}
use Rattle.gt_ahead.proofs.laws.unnamed_files_hold_nothing.Goals as goal

pub returns : goal.returns
returns c = unnamed_apart
