use Rattle.std.proofs.Common.{◌≡◌, drop, option_map}
use Rattle.gt_model.specs.declared.refusal.Refusal.TheVariants.{DirectoryConflict}
use Rattle.gt_model.specs.Contents.{and_then}
use Rattle.gt_model.specs.Verdicts.{first_some, target, clash_in}
use Rattle.gt_plain.proofs.checks.directory_in.Given as goal

-- what is left answers as all do
abbrev pub invariant-loop-update : goal.invariant-loop-update
invariant-loop-update l =
    first_some (λ u. and_then (target u) (λ new. option_map (DirectoryConflict u.name) (clash_in l.laid u.name))) (drop l.update-index l.refs)
    ≡ first_some (λ u. and_then (target u) (λ new. option_map (DirectoryConflict u.name) (clash_in l.laid u.name))) l.refs
