use Rattle.std.proofs.lemmas.List.Elements.{All-from_recursion}
use Rattle.gt_apply.proofs.Lists.{all_of}
use Rattle.gt_moves.specs.Moves.{planned_moves}
use Rattle.gt_moves.specs.Standing.{StandsMoved}
use Rattle.gt_moves.proofs.Stands.{stands_moved}
use Rattle.gt_moves.proofs.laws.moved_records_stand.Goals as goal

pub returns : goal.returns
returns c = λ begin next content entries states legal typed built spelled kept.
    All-from_recursion (StandsMoved begin entries states) (planned_moves next entries)
    (all_of (StandsMoved begin entries states) (planned_moves next entries) (stands_moved begin next content entries states legal typed built spelled kept))
