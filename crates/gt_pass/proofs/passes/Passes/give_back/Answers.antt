use Rattle.std.proofs.Common.{rules, ap, ◌∙◌}
use Rattle.gt_pass.proofs.Moves.{deals, joins}
use Rattle.gt_pass.proofs.passes.Passes.give_back.Goals as goal

pub split_seat-back-requires : goal.split_seat-back-requires
split_seat-back-requires c = (search rules, search rules, deals _ _ c.requires.keeper.1)

pub join_seat-requires : goal.join_seat-requires
join_seat-requires c =
    let keeps = ap (λ m. m.0.keeps) c.split_seat-back.ensures.2 ∙ c.requires.keeper.1 in
    let bears = ap (λ s. s.me.0.keeps) c.replace-empty.ensures.value ∙ c.requires.seat.1 in
    (search rules, search rules, search rules, search rules, joins _ _ _ _ keeps bears)
