use Rattle.gt_pool.proofs.TicketMoves.{begins}
use Rattle.gt_pool.proofs.tickets.Tickets.new.Goals as goal

pub with_rule-requires : goal.with_rule-requires
with_rule-requires c = begins
