use Rattle.gt_pool.proofs.TicketMoves.{joins}
use Rattle.gt_pool.proofs.tickets.Tickets.join.Goals as goal

pub absorb-requires-clause-rule : goal.absorb-requires-clause-rule
absorb-requires-clause-rule c = joins _ _ _ _ c.pass.invariant.2
