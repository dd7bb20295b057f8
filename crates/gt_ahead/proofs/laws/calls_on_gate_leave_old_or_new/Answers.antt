use Rattle.gt_ahead.proofs.Counters.{gated, logs_kept, gate_either, gate_decides}
use Rattle.gt_ahead.proofs.laws.calls_on_gate_leave_old_or_new.Goals as goal

pub returns-clause-moments : goal.returns-clause-moments
returns-clause-moments c = gated

pub returns-clause-after : goal.returns-clause-after
returns-clause-after c = logs_kept

pub returns-clause-either : goal.returns-clause-either
returns-clause-either c = gate_either

pub returns-clause-decided : goal.returns-clause-decided
returns-clause-decided c = gate_decides
