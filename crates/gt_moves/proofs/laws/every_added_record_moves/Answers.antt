use Rattle.std.proofs.lemmas.List.Elements.{All-from_recursion}
use Rattle.std.specs.Prelude.{All, Any}
use Rattle.gt_apply.specs.Plan.{added_by}
use Rattle.gt_apply.proofs.Lists.{all_of}
use Rattle.gt_model.specs.declared.added.Added.{Added}
use Rattle.gt_model.specs.declared.entry.Entry.{Entry}
use Rattle.gt_moves.specs.Moves.{planned_moves}
use Rattle.gt_moves.specs.Within.{IsMoveOf}
use Rattle.gt_moves.proofs.Members.{has_move}
use Rattle.gt_moves.proofs.laws.every_added_record_moves.Goals as goal

pub returns : goal.returns
returns c = λ next entries.
    let Moves : Entry → Added → Type 0 = λ e a. Any (IsMoveOf e a) (planned_moves next entries) in
    All-from_recursion (λ e. All (Moves e) (added_by e.change)) entries
    (all_of (λ e. All (Moves e) (added_by e.change)) entries (λ e i. All-from_recursion (Moves e) (added_by e.change) (all_of (Moves e) (added_by e.change) (λ a j. has_move e a j entries i next))))
