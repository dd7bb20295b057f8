use Rattle.gt_versions.proofs.Keys.{at_key}
use Rattle.gt_objset.proofs.StepLaws.{grown_everywhere, same_twice}
use Rattle.gt_objset.proofs.repos.reserve_repo.Goals as goal

pub returns-clause-same : goal.returns-clause-same
returns-clause-same c = λ x. same_twice (at_key c.args.repos.now.entries x) (at_key c.have_repo.new.repos.entries x) (at_key c.grow_repo.new.repos.entries x) (c.in_default.ensures.same x)
    (grown_everywhere c.have_repo.new.repos.entries c.grow_repo.new.repos.entries c.args.path.now c.grow_repo.ensures.others c.grow_repo.ensures.here x)
