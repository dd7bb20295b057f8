use Rattle.std.proofs.lemmas.List.Elements.{All-from_recursion}
use Rattle.gt_apply.proofs.Lists.{all_of}
use Rattle.gt_moves.specs.Moves.{planned_moves}
use Rattle.gt_moves.specs.Within.{IsWithin}
use Rattle.gt_moves.proofs.Numbers.{is_within}
use Rattle.gt_moves.proofs.laws.moves_are_within.Goals as goal

pub returns : goal.returns
returns c = λ begin next content entries legal.
    All-from_recursion (IsWithin begin next entries) (planned_moves next entries) (all_of (IsWithin begin next entries) (planned_moves next entries) (is_within begin next content entries legal))
