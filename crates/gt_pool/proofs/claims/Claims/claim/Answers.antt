use Rattle.std.proofs.Common.{rules}
use Rattle.gt_pool.proofs.ClaimMoves.{claims}
use Rattle.gt_pool.proofs.claims.Claims.claim.Goals as goal

pub fetch_add-n-requires : goal.fetch_add-n-requires
fetch_add-n-requires c = (search rules, search rules, claims _ _ _ _ c.claimer.invariant.1 (search rules))
