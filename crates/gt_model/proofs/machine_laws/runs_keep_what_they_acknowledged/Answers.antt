use Rattle.gt_model.proofs.Runs.{run_acked, run_order}
use Rattle.gt_model.proofs.machine_laws.runs_keep_what_they_acknowledged.Goals as goal

pub returns-clause-acked : goal.returns-clause-acked
returns-clause-acked c = run_acked

pub returns-clause-order : goal.returns-clause-order
returns-clause-order c = run_order
