use Rattle.std.proofs.Common.{◌≡◌, Some, arith}
use Rattle.std.proofs.lemmas.Grind.{common_steps}
use Rattle.gt_versions.proofs.Keys.{at_key}
use Rattle.gt_reftable.proofs.SeedLaws.{empty_up, seeds_new}
use Rattle.gt_reftable.proofs.seeding.seed_new.Goals as goal

pub seed-requires : goal.seed-requires
seed-requires c = empty_up c.args.position c.new-repo.result c.new-repo.ensures.lives c.new-repo.ensures.refs c.new-repo.ensures.current

pub returns-in-Ok-insert-clause-ok : goal.returns-in-Ok-insert-clause-ok
returns-in-Ok-insert-clause-ok c =
    let found : at_key c.insert.new.self.entries c.args.path.now ≡ Some c.seed.new.self = grind (arith, common_steps) in
    seeds_new c.args.position c.args.name.now c.args.value c.new-repo.result c.seed.new.self (at_key c.args.repos.now.entries c.args.path.now) (at_key c.insert.new.self.entries c.args.path.now) c.requires found c.new-repo.ensures.refs c.in_default.ensures.ok
