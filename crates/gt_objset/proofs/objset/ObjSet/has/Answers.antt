use Rattle.std.proofs.Common.{◌∙◌}
use Rattle.gt_objset.proofs.AgreeLaws.{shows_visible}
use Rattle.gt_objset.proofs.objset.ObjSet.has.Goals as goal

pub returns-clause-content : goal.returns-clause-content
returns-clause-content c = λ base log h. c.sees.ensures ∙ shows_visible c.args.self.now base log c.args.at h c.requires.from c.requires.to c.args.path.now c.args.name.now
