use Rattle.gt_ahead.proofs.Older.{old_apart}
use Rattle.gt_ahead.proofs.laws.old_files_hold_nothing.Goals as goal

pub returns : goal.returns
returns c = old_apart
