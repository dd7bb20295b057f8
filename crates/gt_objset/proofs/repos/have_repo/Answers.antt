use Rattle.std.proofs.Common.{◌≡◌, None, arith}
use Rattle.std.proofs.lemmas.Grind.{common_steps}
use Rattle.gt_versions.proofs.Keys.{at_key}
use Rattle.gt_objset.proofs.StepLaws.{added_everywhere}
use Rattle.gt_objset.proofs.repos.have_repo.Goals as goal

pub returns-else-contains_key-clause-same : goal.returns-else-contains_key-clause-same
returns-else-contains_key-clause-same c =
    let none : at_key c.args.repos.now.entries c.args.path.now ≡ None = grind (arith, common_steps) in
    added_everywhere c.args.repos.now.entries c.add_repo.new.repos.entries c.args.path.now c.add_repo.ensures.others none c.add_repo.ensures.here
