use Rattle.gt_objset.proofs.RepoLaws.{own_found}
use Rattle.gt_objset.proofs.repo.RepoObjects.own.Goals as goal

pub returns-in-Some : goal.returns-in-Some
returns-in-Some c =
    let life = rw (← c.self.view_is) at c.in-Some.ensures in
    rw (← c.self.view_is) (own_found c.self.inside.lives c.self.inside.kinds c.self.inside.pools c.self.inside.objects.entries c.args.at c.args.name.now c.in-Some.start c.version_at.result life c.version_at.ensures)
