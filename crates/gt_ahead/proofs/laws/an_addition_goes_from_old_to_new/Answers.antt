use Rattle.gt_ahead.proofs.Entered.{added_since, added_after}
use Rattle.gt_ahead.proofs.laws.an_addition_goes_from_old_to_new.Goals as goal

pub returns-clause-moments : goal.returns-clause-moments
returns-clause-moments c = added_since

pub returns-clause-after : goal.returns-clause-after
returns-clause-after c = added_after
