use Rattle.gt_objset.proofs.SeedLaws.{mid_up, mid_room, all_seeds}
use Rattle.gt_objset.proofs.seeding.seed_puts.Goals as goal

pub put_repo-requires-clause-after : goal.put_repo-requires-clause-after
put_repo-requires-clause-after c = mid_up c.args.floor c.none.result c.args.puts.now c.args.repos.now.entries c.reserve_repo.new.repos.entries c.reserve_repo.new.repos.entries c.args.path.now c.requires c.reserve_repo.ensures.same

pub put_repo-requires-clause-room : goal.put_repo-requires-clause-room
put_repo-requires-clause-room c = mid_room c.args.floor c.none.result c.args.puts.now c.args.repos.now.entries c.reserve_repo.new.repos.entries c.reserve_repo.new.repos.entries c.args.path.now c.requires c.reserve_repo.ensures.same (c.in_default.ensures.ok c.args.floor)

pub returns-clause-ok : goal.returns-clause-ok
returns-clause-ok c = all_seeds c.args.floor c.none.result c.args.puts.now c.args.repos.now.entries c.reserve_repo.new.repos.entries c.put_repo.new.repos.entries c.args.path.now c.requires c.reserve_repo.ensures.same c.none.ensures c.put_repo.ensures.here c.put_repo.ensures.others
