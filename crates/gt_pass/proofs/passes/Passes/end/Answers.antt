use Rattle.std.proofs.Common.{rules, ap, ◌∙◌}
use Rattle.gt_pass.proofs.Moves.{ends, joins}
use Rattle.gt_pass.proofs.passes.Passes.end.Goals as goal

pub join_seat-requires : goal.join_seat-requires
join_seat-requires c = (search rules, search rules, search rules, search rules, joins _ _ _ _ (ap (λ m. m.0.keeps) c.keeper.invariant) (ap (λ m. m.0.keeps) c.seat.invariant))

pub load-requires : goal.load-requires
load-requires c = (search rules, search rules, ends _ _ _ (ap (λ m. m.0.keeps) c.join_seat.ensures.2 ∙ ap (λ m. m.0.keeps) c.keeper.invariant))
