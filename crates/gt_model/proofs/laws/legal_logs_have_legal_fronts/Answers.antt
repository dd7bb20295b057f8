use Rattle.gt_model.proofs.Logs.{legal_front, legal_rest}
use Rattle.gt_model.proofs.laws.legal_logs_have_legal_fronts.Goals as goal

pub returns-clause-front : goal.returns-clause-front
returns-clause-front c = legal_front

pub returns-clause-rest : goal.returns-clause-rest
returns-clause-rest c = legal_rest
