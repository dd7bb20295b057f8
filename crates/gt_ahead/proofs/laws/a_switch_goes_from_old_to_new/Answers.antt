use Rattle.gt_ahead.proofs.Switched.{since_loads, end_loads}
use Rattle.gt_ahead.proofs.laws.a_switch_goes_from_old_to_new.Goals as goal

pub returns-clause-moments : goal.returns-clause-moments
returns-clause-moments c limits gate old new count result v w shows may = since_loads limits gate old new count _ _ shows may result v w

pub returns-clause-after : goal.returns-clause-after
returns-clause-after c limits gate old new count result v w shows may = end_loads limits gate old new count _ _ shows may result _
