use Rattle.std.proofs.Common.{List, subst, sym}
use Rattle.gt_model.specs.declared.update.RefUpdate.{RefUpdate}
use Rattle.gt_entry.specs.Agrees.{Agrees}
use Rattle.gt_entry.proofs.SetLemmas.{agrees_more}
use Rattle.gt_entry.proofs.refs.keep.Goals as goal

pub returns-in-Ok-push-clause-agrees : goal.returns-in-Ok-push-clause-agrees
returns-in-Ok-push-clause-agrees c =
    let P : List RefUpdate → Type 0 = λ us. Agrees c.insert.new.self us in
    subst P (sym c.in-Ok-push.ensures.ok) (agrees_more c.args.set.now c.insert.new.self c.args.refs.now c.args.update c.in-Ok.key c.in-Ok.ensures.cases c.requires c.in-Ok-insert.ensures.updates.0)
