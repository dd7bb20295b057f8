use Rattle.gt_standing.proofs.Chains.{one_more}
use Rattle.gt_standing.proofs.laws.moves_follow_each_other.Goals as goal

pub returns : goal.returns
returns c = one_more
