use Rattle.std.proofs.Common.{rules, ap, ◌∙◌}
use Rattle.gt_pass.proofs.Moves.{empties, joins}
use Rattle.gt_pass.proofs.passes.Passes.show.Goals as goal

pub split_seat-empty-requires : goal.split_seat-empty-requires
split_seat-empty-requires c = (search rules, search rules, empties _ _)

pub join_seat-requires : goal.join_seat-requires
join_seat-requires c =
    let keeps = ap (λ m. m.0.keeps) c.split_seat-empty.ensures.2 ∙ c.requires.keeper.1 in
    let bears = ap (λ s. s.me.0.keeps) c.replace-shown.ensures.value ∙ c.requires.seat.1 in
    (search rules, search rules, search rules, search rules, joins _ _ _ _ keeps bears)
