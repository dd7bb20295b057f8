use Rattle.std.proofs.Common.{◌≡◌, drop}
use Rattle.gt_model.specs.Verdicts.{first_some}
use Rattle.gt_model.specs.Conflicts.{pruned_by}
use Rattle.gt_plain_jobs.proofs.conflicts.first_pruned.Given as goal

-- what is left answers as all do
abbrev pub invariant-loop-entry : goal.invariant-loop-entry
invariant-loop-entry l = first_some (pruned_by l.content l.path l.dropped) (drop l.entry-index l.since) ≡ first_some (pruned_by l.content l.path l.dropped) l.since
