use Rattle.std.proofs.Common.{rules}
use Rattle.gt_pool.proofs.TicketMoves.{splits}
use Rattle.gt_pool.proofs.tickets.Tickets.split.Goals as goal

pub another-pass-requires-clause-rule : goal.another-pass-requires-clause-rule
another-pass-requires-clause-rule c = splits _ _ (search rules)
