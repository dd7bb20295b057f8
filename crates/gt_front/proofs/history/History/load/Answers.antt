use Rattle.std.proofs.Common.{rules, ap}
use Rattle.gt_front.proofs.Moves.{loads}
use Rattle.gt_front.proofs.history.History.load.Goals as goal

pub load-requires : goal.load-requires
load-requires c = (search rules, search rules, loads _ _ _ _ (ap (λ m. m.0.spent) c.reader.invariant))
