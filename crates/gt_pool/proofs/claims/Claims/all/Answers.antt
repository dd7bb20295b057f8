use Rattle.std.proofs.Common.{rules}
use Rattle.gt_pool.proofs.ClaimMoves.{looks}
use Rattle.gt_pool.proofs.claims.Claims.all.Goals as goal

pub load-requires : goal.load-requires
load-requires c = (search rules, search rules, looks _ _ _ _)
