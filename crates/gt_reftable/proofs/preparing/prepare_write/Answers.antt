use Rattle.std.proofs.Common.{◌≡◌, None, arith}
use Rattle.std.proofs.lemmas.Grind.{common_steps}
use Rattle.gt_versions.proofs.Keys.{at_key}
use Rattle.gt_reftable.proofs.TableLaws.{same_everywhere, same_roomier, same_unborn}
use Rattle.gt_reftable.proofs.preparing.prepare_write.Goals as goal

pub returns-then-contains_key-clause-same : goal.returns-then-contains_key-clause-same
returns-then-contains_key-clause-same c = same_everywhere c.args.repos.now.entries c.grow_refs.new.repos.entries c.args.path.now (same_roomier (at_key c.args.repos.now.entries c.args.path.now) (at_key c.grow_refs.new.repos.entries c.args.path.now) c.grow_refs.ensures.here) c.grow_refs.ensures.others

pub returns-else-contains_key-clause-same : goal.returns-else-contains_key-clause-same
returns-else-contains_key-clause-same c =
    let none : at_key c.args.repos.now.entries c.args.path.now ≡ None = grind (arith, common_steps) in
    same_everywhere c.args.repos.now.entries c.add_repo.new.repos.entries c.args.path.now (same_unborn (at_key c.args.repos.now.entries c.args.path.now) (at_key c.add_repo.new.repos.entries c.args.path.now) none c.add_repo.ensures.here) c.add_repo.ensures.others
