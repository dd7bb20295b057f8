use Rattle.std.proofs.Common.{◌∙◌}
use Rattle.gt_objset.proofs.MemberLaws.{set_grown}
use Rattle.gt_objset.proofs.members.add_path.Goals as goal

pub returns-clause-more : goal.returns-clause-more
returns-clause-more c = λ w q h. set_grown c.have_set.new.members.entries c.insert_path.new.members.entries c.args.pool.now c.insert_path.ensures.others c.insert_path.ensures.here w q (c.in_default.ensures.same w q ∙ h)
