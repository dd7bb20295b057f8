use Rattle.std.proofs.Common.{rules, ap}
use Rattle.gt_front.proofs.Moves.{splits}
use Rattle.gt_front.proofs.history.History.split.Goals as goal

pub split_seat-seat-requires : goal.split_seat-seat-requires
split_seat-seat-requires c = (search rules, search rules, splits _ _ _ (ap (λ m. m.0.spent) c.reader.invariant))
