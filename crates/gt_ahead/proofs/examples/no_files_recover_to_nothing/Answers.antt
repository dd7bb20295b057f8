use Rattle.gt_ahead.proofs.Empty.{nothing_is, nothing_loads}
use Rattle.gt_ahead.proofs.examples.no_files_recover_to_nothing.Goals as goal

pub returns-clause-files : goal.returns-clause-files
returns-clause-files c = nothing_is

pub returns-clause-states : goal.returns-clause-states
returns-clause-states c = nothing_loads
