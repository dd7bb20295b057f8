use Rattle.std.proofs.Common.{drop}
use Rattle.gt_table.specs.Seeds.{Left}
use Rattle.gt_table.proofs.seeding.seed_all.Given as goal

abbrev pub invariant-loop-repo : goal.invariant-loop-repo
invariant-loop-repo l = Left l.fn.refs.floor (drop l.repo-index l.repos) l.repos l.refs l.objects
