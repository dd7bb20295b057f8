use Rattle.std.proofs.Common.{◌≡◌, List, length, sym, ap, subst, ◌∙◌, arith}
use Rattle.gt_entry.specs.Fits.{IsWritable}
use Rattle.gt_model.specs.declared.added.Added.{Added}
use Rattle.gt_model.specs.declared.change.Change.TheVariants.{Write}
use Rattle.gt_model.specs.Verdicts.{added_records}
use Rattle.gt_verify.specs.Refusing.{ready_of}
use Rattle.gt_write.proofs.Writes.{added_is, writable}
use Rattle.gt_write.proofs.writing.write_entry.Goals as goal

pub returns-in-Ok-clone-clause-entry : goal.returns-in-Ok-clone-clause-entry
returns-in-Ok-clone-clause-entry c = λ content good.
    let added : c.in-Ok.added ≡ added_records content c.args.path.now c.args.stage.now.staged = c.in-Ok.ensures ∙ added_is content c.args.path.now c.args.stage.now.staged (ready_of c.args.ready) c.law_stage.ensures good in
    let path : c.in-Ok-clone.path ≡ c.args.path.now = cc (c.in-Ok-clone.ensures.cases) in
    λ i. record { position = c.args.position; path = path i; change = Write c.args.ready.refs c.args.ready.needed (added i) }

pub returns-in-Ok-clone-clause-spelled : goal.returns-in-Ok-clone-clause-spelled
returns-in-Ok-clone-clause-spelled c = λ content good.
    let added : c.in-Ok.added ≡ added_records content c.args.path.now c.args.stage.now.staged = c.in-Ok.ensures ∙ added_is content c.args.path.now c.args.stage.now.staged (ready_of c.args.ready) c.law_stage.ensures good in
    subst (λ (records : List Added). IsWritable c.args.ready.refs c.args.ready.needed records) (sym added)
    (writable content c.args.path.now c.args.stage.now.staged (ready_of c.args.ready) c.law_stage.ensures good (omega arith) (omega arith) (omega (arith, ap (λ (l : List Added). length l) added)))
