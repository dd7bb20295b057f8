use Rattle.std.proofs.Common.{refl, []}
use Rattle.std.specs.Option.{option_copied}
use Rattle.gt_objset.proofs.SeedLaws.{seed_up, seeded}
use Rattle.gt_objset.proofs.seeding.seeded.Goals as goal

pub put-requires-clause-after : goal.put-requires-clause-after
put-requires-clause-after c = seed_up c.args.floor c.args.is_pool (option_copied c.args.pool) c.in-Ok.head [] c.new-repo.result c.reserve.new.self c.reserve.new.self c.new-repo.ensures.lives c.new-repo.ensures.kinds c.new-repo.ensures.pools c.new-repo.ensures.objects c.reserve.ensures.same

pub returns : goal.returns
returns c = seeded c.args.floor c.args.is_pool (option_copied c.args.pool) c.in-Ok.head [] c.new-repo.result c.reserve.new.self c.put.new.self c.new-repo.ensures.lives c.new-repo.ensures.kinds c.new-repo.ensures.pools c.new-repo.ensures.objects c.reserve.ensures.same c.in-Ok.ensures refl c.put.ensures
