use Rattle.std.proofs.Common.{◌≡◌, drop, Some, None, [], if◌then◌else◌}
use Rattle.gt_model.specs.declared.needer.Needer.TheVariants.{Ref}
use Rattle.gt_model.specs.declared.refusal.Refusal.TheVariants.{MissingObject}
use Rattle.gt_model.specs.Contents.{and_then}
use Rattle.gt_plain.specs.Plain.{staged}
use Rattle.gt_model.specs.Verdicts.{first_some, target, is_present}
use Rattle.gt_plain.proofs.checks.missing_value.Given as goal

-- what is left answers as all do
abbrev pub invariant-loop-update : goal.invariant-loop-update
invariant-loop-update l = first_some (λ u. and_then (target u) (λ new. if is_present l.content l.path (staged [] l.records) new then None else Some (MissingObject new (Ref u.name)))) (drop l.update-index l.refs) ≡ first_some (λ u. and_then (target u) (λ new. if is_present l.content l.path (staged [] l.records) new then None else Some (MissingObject new (Ref u.name)))) l.refs
