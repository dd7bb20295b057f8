use Rattle.std.proofs.lemmas.List.Elements.{All-from_recursion}
use Rattle.gt_apply.proofs.Lists.{all_of}
use Rattle.gt_moves.specs.Moves.{planned_moves}
use Rattle.gt_moves.specs.Standing.{IsCarried}
use Rattle.gt_moves.proofs.Stands.{is_carried}
use Rattle.gt_moves.proofs.laws.moves_have_their_records.Goals as goal

pub returns : goal.returns
returns c = λ begin next content entries legal.
    All-from_recursion (IsCarried begin entries) (planned_moves next entries) (all_of (IsCarried begin entries) (planned_moves next entries) (is_carried begin next content entries legal))
