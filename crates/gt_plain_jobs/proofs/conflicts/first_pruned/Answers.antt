use Rattle.std.proofs.Common.{sym, ◌∙◌, Option}
use Rattle.gt_model.specs.declared.entry.Entry.{Entry}
use Rattle.gt_model.specs.declared.refusal.Refusal.{Refusal}
use Rattle.gt_model.specs.Conflicts.{pruned_by}
use Rattle.gt_plain.proofs.Firsts.{answers_here, answers_later}
use Rattle.gt_plain_jobs.proofs.conflicts.first_pruned.Goals as goal

pub returns-in-Some : goal.returns-in-Some
returns-in-Some c =
    let f : Entry → Option Refusal = pruned_by c.args.content.now c.args.path.now c.args.dropped.now in
    answers_here f c.args.since.now c.loop-entry.entry-index c.entry-item.result c.loop-entry-test.true c.entry-item.is c.in-Some.refusal (sym c.in-Some.is ∙ c.pruned_by.ensures) c.loop-entry.invariant

pub loop-entry-preserved : goal.loop-entry-preserved
loop-entry-preserved c =
    let f : Entry → Option Refusal = pruned_by c.args.content.now c.args.path.now c.args.dropped.now in
    answers_later f c.args.since.now c.loop-entry.entry-index c.entry-item.result c.loop-entry-test.true c.entry-item.is (sym c.in_default.is ∙ c.pruned_by.ensures) c.loop-entry.invariant
