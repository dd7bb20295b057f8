use Rattle.gt_ahead.proofs.Choices.{epoch_tells, gate_tells}
use Rattle.gt_ahead.proofs.laws.lengths_tell_which_loads.Goals as goal

pub returns-clause-turn : goal.returns-clause-turn
returns-clause-turn c = epoch_tells

pub returns-clause-gate : goal.returns-clause-gate
returns-clause-gate c = gate_tells
