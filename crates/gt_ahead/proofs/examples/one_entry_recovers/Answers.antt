use Rattle.gt_ahead.proofs.OneEntry.{one_is, one_loads_it}
use Rattle.gt_ahead.proofs.examples.one_entry_recovers.Goals as goal

pub returns-clause-files : goal.returns-clause-files
returns-clause-files c = one_is

pub returns-clause-states : goal.returns-clause-states
returns-clause-states c = one_loads_it
