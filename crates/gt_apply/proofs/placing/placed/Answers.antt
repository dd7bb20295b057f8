use Rattle.std.proofs.Common.{◌≡◌, IfOk, subst}
use Rattle.gt_manifest.specs.declared.manifest.RepoFiles.{RepoFiles}
use Rattle.gt_apply.proofs.PlacedLaws.{placed-none, placed-some}
use Rattle.gt_apply.proofs.placing.placed.Goals as goal

pub returns-in-None : goal.returns-in-None
returns-in-None c =
    subst (λ (x : RepoFiles). IfOk c.with_values.result (λ r. r ≡ x))
    (placed-none c.args.number c.args.writes.now c.args.repo c.as_slice.result.now c.as_slice.ensures c.in-None.is) c.with_values.ensures

pub returns-in_ok-repo-in-Some : goal.returns-in_ok-repo-in-Some
returns-in_ok-repo-in-Some c =
    subst (λ (x : RepoFiles). IfOk c.with_values-in-Some.result (λ r. r ≡ x))
    (placed-some c.args.number c.args.writes.now c.args.repo c.as_slice-in-Some.result.now c.as_slice-in-Some.ensures _ c.in_ok-repo-in-Some.repo c.in-Some.is c.in_ok-repo-in-Some.ensures) c.with_values-in-Some.ensures
