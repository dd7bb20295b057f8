use Rattle.std.proofs.Common.{◌∙◌}
use Rattle.gt_objset.proofs.AgreeLaws.{shows_repo}
use Rattle.gt_objset.proofs.objset.ObjSet.has_repo.Goals as goal

pub returns-clause-content : goal.returns-clause-content
returns-clause-content c = λ base log h. c.there.ensures ∙ shows_repo c.args.self.now base log c.args.at h c.requires.from c.requires.to c.args.path.now
