use Rattle.gt_log.proofs.Images.{one_list}
use Rattle.gt_log.proofs.laws.recovers_by_its_files.Goals as goal

pub returns-clause-one : goal.returns-clause-one
returns-clause-one c = one_list
