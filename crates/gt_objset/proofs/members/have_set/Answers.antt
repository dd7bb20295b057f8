use Rattle.std.proofs.Common.{◌≡◌, None, arith}
use Rattle.std.proofs.lemmas.Grind.{common_steps}
use Rattle.gt_versions.proofs.Keys.{at_key}
use Rattle.gt_objset.proofs.MemberLaws.{set_added}
use Rattle.gt_objset.proofs.members.have_set.Goals as goal

pub returns-else-contains_key-clause-same : goal.returns-else-contains_key-clause-same
returns-else-contains_key-clause-same c =
    let none : at_key c.args.members.now.entries c.args.pool.now ≡ None = grind (arith, common_steps) in
    set_added c.args.members.now.entries c.add_set.new.members.entries c.args.pool.now c.add_set.ensures.others none c.add_set.ensures.here
