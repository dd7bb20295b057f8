use Rattle.gt_table.proofs.SeedLaws.{now_there}
use Rattle.gt_table.proofs.seeding.seed_repo.Goals as goal

pub seed_packs-requires-clause-there : goal.seed_packs-requires-clause-there
seed_packs-requires-clause-there c = now_there c.args.repo.now.path _ c.args.objects.now c.seed_repo.new.self c.in_default.ensures.ok
