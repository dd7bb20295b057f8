use Rattle.gt_applied.proofs.Pools.{pools_after}
use Rattle.gt_applied.proofs.laws.built_entries_keep_good_pools.Goals as goal

pub returns : goal.returns
returns c = pools_after
