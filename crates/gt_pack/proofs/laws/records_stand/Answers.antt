use Rattle.gt_pack.proofs.StandLaws.{records_are}
use Rattle.gt_pack.proofs.laws.records_stand.Goals as goal

pub returns : goal.returns
returns c = records_are
