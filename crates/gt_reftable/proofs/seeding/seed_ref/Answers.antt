use Rattle.gt_reftable.proofs.SeedLaws.{seed_ok, seed_err, known_err, new_err}
use Rattle.gt_reftable.proofs.seeding.seed_ref.Goals as goal

pub returns-then-contains_key-clause-ok : goal.returns-then-contains_key-clause-ok
returns-then-contains_key-clause-ok c = seed_ok c.seed_known.result c.args.repos.now.entries c.seed_known.new.repos.entries c.args.path.now c.seed_known.ensures.others c.args.position c.args.name.now c.args.value c.seed_known.ensures.ok

pub returns-then-contains_key-clause-err : goal.returns-then-contains_key-clause-err
returns-then-contains_key-clause-err c = seed_err c.seed_known.result c.args.repos.now.entries c.seed_known.new.repos.entries c.args.path.now c.seed_known.ensures.others (known_err c.seed_known.result c.args.repos.now.entries c.seed_known.new.repos.entries c.args.path.now c.seed_known.ensures.others c.seed_known.ensures.err)

pub returns-else-contains_key-clause-ok : goal.returns-else-contains_key-clause-ok
returns-else-contains_key-clause-ok c = seed_ok c.seed_new.result c.args.repos.now.entries c.seed_new.new.repos.entries c.args.path.now c.seed_new.ensures.others c.args.position c.args.name.now c.args.value c.seed_new.ensures.ok

pub returns-else-contains_key-clause-err : goal.returns-else-contains_key-clause-err
returns-else-contains_key-clause-err c = seed_err c.seed_new.result c.args.repos.now.entries c.seed_new.new.repos.entries c.args.path.now c.seed_new.ensures.others (new_err c.seed_new.result c.args.repos.now.entries c.seed_new.new.repos.entries c.args.path.now c.seed_new.ensures.others c.seed_new.ensures.err)
