use Rattle.std.proofs.Common.{◌≡◌, drop, Some, None, if◌then◌else◌}
use Rattle.gt_model.specs.declared.refusal.Refusal.TheVariants.{ReferenceConflict}
use Rattle.gt_model.specs.Contents.{value_or_zero, finds_old}
use Rattle.gt_model.specs.Verdicts.{first_some}
use Rattle.gt_plain.proofs.checks.conflict.Given as goal

-- what is left answers as all do
abbrev pub invariant-loop-update : goal.invariant-loop-update
invariant-loop-update l = first_some (λ u. if finds_old l.content l.path u then None else Some (ReferenceConflict u.name u.old (value_or_zero l.content l.path u.name))) (drop l.update-index l.refs) ≡ first_some (λ u. if finds_old l.content l.path u then None else Some (ReferenceConflict u.name u.old (value_or_zero l.content l.path u.name))) l.refs
