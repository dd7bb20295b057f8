use Rattle.gt_model.proofs.Logs.{legal-old_values}
use Rattle.gt_model.proofs.laws.legal_logs_find_old_values.Goals as goal

pub returns : goal.returns
returns c = legal-old_values
