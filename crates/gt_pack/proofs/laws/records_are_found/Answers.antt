use Rattle.gt_pack.proofs.FindLaws.{absent_in}
use Rattle.gt_pack.proofs.StandLaws.{records_by_name}
use Rattle.gt_pack.proofs.laws.records_are_found.Goals as goal

pub returns-clause-found : goal.returns-clause-found
returns-clause-found c = records_by_name

pub returns-clause-absent : goal.returns-clause-absent
returns-clause-absent c = absent_in 8
