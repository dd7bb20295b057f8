use Rattle.std.proofs.Common.{List, ℕ, subst, sym}
use Rattle.gt_object.specs.Agrees.{Agrees}
use Rattle.gt_object.proofs.Noting.{agrees_more}
use Rattle.gt_object.proofs.deps.note.Goals as goal

pub returns-in_ok-push-in-Ok-true-clause-agrees : goal.returns-in_ok-push-in-Ok-true-clause-agrees
returns-in_ok-push-in-Ok-true-clause-agrees c =
    let P : List (List ℕ) → Type 0 = λ n. Agrees c.insert.new.self n in
    subst P (sym c.in_ok-push-in-Ok-true.ensures.ok) (agrees_more c.args.set.now c.insert.new.self c.args.names.now c.args.name c.requires c.in-Ok-true.ensures.updates.0)
