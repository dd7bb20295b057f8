use Rattle.gt_applied.proofs.Listed.{lists, good_pools}
use Rattle.gt_applied.proofs.laws.bases_list_their_repositories.Goals as goal

pub returns-clause-lists : goal.returns-clause-lists
returns-clause-lists c m repos fits same = lists m repos fits same

pub returns-clause-pools : goal.returns-clause-pools
returns-clause-pools c m repos fits same = good_pools m repos fits same
