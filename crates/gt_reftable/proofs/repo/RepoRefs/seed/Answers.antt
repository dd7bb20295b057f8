use Rattle.gt_reftable.proofs.SeedLaws.{seeded}
use Rattle.gt_reftable.proofs.repo.RepoRefs.seed.Goals as goal

pub returns-clause-ok : goal.returns-clause-ok
returns-clause-ok c =
    let up = rw (← c.self.view_is) at c.requires in
    rw (← c.self.view_is) (seeded c.self.inside.lives c.args.position c.args.name.now c.args.value c.self.inside.refs c.prepare.new.self c.put.new.self c.self.inside.current c.prepare-2.new.self c.put-2.new.self up c.in_default.ensures.same c.put.ensures c.in_default-prepare.ensures.same c.put-2.ensures)
