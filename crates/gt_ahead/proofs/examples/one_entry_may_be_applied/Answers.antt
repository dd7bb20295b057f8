use Rattle.gt_ahead.proofs.OneEntry.{may_apply}
use Rattle.gt_ahead.proofs.examples.one_entry_may_be_applied.Goals as goal

pub returns : goal.returns
returns c = may_apply
