use Rattle.std.proofs.Common.{rules}
use Rattle.gt_pool.proofs.ClaimMoves.{begins}
use Rattle.gt_pool.proofs.claims.Claims.new.Goals as goal

pub of_words-requires : goal.of_words-requires
of_words-requires c = begins _ (search rules)
