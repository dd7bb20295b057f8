use Rattle.gt_pool.proofs.TicketMoves.{puts}
use Rattle.gt_pool.proofs.tickets.Tickets.put.Goals as goal

pub push_as-requires-clause-rule : goal.push_as-requires-clause-rule
push_as-requires-clause-rule g c = λ n. puts n _ _ _ c.pass.invariant.2 c.requires.ticket
