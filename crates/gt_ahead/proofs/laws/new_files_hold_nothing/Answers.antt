use Rattle.gt_ahead.proofs.Numbers.{whole_apart, new_apart}
use Rattle.gt_ahead.proofs.laws.new_files_hold_nothing.Goals as goal

pub returns-clause-whole : goal.returns-clause-whole
returns-clause-whole c = whole_apart

pub returns-clause-read : goal.returns-clause-read
returns-clause-read c = new_apart
