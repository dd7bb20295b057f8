use Rattle.std.proofs.Common.{rules, ap, ◌∙◌}
use Rattle.gt_front.proofs.Moves.{checks, joins}
use Rattle.gt_front.proofs.history.History.join.Goals as goal

pub join_seat-requires : goal.join_seat-requires
join_seat-requires c = (search rules, search rules, search rules, search rules, joins _ _ _ _ _ (ap (λ m. m.0.spent) c.reader.invariant) (ap (λ m. m.0.spent) c.other.invariant) (ap (λ m. m.0.owns) c.other.invariant))

pub load-requires : goal.load-requires
load-requires c = (search rules, search rules, checks _ _ _ _ (ap (λ m. m.0.spent) c.join_seat.ensures.2 ∙ ap (λ m. m.0.spent) c.reader.invariant))
