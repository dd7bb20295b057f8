use Rattle.gt_ahead.proofs.Elsewhere.{calls_elsewhere, runs_elsewhere}
use Rattle.gt_ahead.proofs.laws.calls_elsewhere_keep_what_loads.Goals as goal

pub returns-clause-calls : goal.returns-clause-calls
returns-clause-calls c = calls_elsewhere

pub returns-clause-runs : goal.returns-clause-runs
returns-clause-runs c = runs_elsewhere
