use Rattle.std.proofs.Common.{◌≡◌, option_map, subst, IfOk}
use Rattle.gt_model.specs.declared.refusal.Refusal.TheVariants.{DirectoryConflict}
use Rattle.gt_model.specs.Contents.{Names, and_then}
use Rattle.gt_model.specs.Verdicts.{first_some, target, clash_in}
use Rattle.gt_plain.proofs.checks.directory.Goals as goal

pub returns : goal.returns
returns c =
    subst (λ (laid : Names). IfOk c.directory_in.result (λ o. o ≡ first_some (λ u. and_then (target u) (λ new. option_map (DirectoryConflict u.name) (clash_in laid u.name))) c.args.refs.now))
    c.in_ok-laid.ensures c.directory_in.ensures
