-- The machine's state that the memory of a partition stands for. This module alone knows which it is.
use Rattle.gt_model.specs.Machine.{State}
use Rattle.gt_journal.specs.Ledger as ledger
use Rattle.gt_act.specs.declared.partition_state.PartitionState.{PartitionState}

abbrev pub state_of : PartitionState → State
state_of state = ledger.state_of state.journal state.live
