use Rattle.gt_ahead.proofs.Counters.{turned, epochs_kept, turn_either, turn_decides}
use Rattle.gt_ahead.proofs.laws.calls_on_turn_leave_old_or_new.Goals as goal

pub returns-clause-moments : goal.returns-clause-moments
returns-clause-moments c = turned

pub returns-clause-after : goal.returns-clause-after
returns-clause-after c = epochs_kept

pub returns-clause-either : goal.returns-clause-either
returns-clause-either c = turn_either

pub returns-clause-decided : goal.returns-clause-decided
returns-clause-decided c = turn_decides
