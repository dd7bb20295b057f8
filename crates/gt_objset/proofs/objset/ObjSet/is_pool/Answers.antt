use Rattle.std.proofs.Common.{◌∙◌}
use Rattle.gt_objset.proofs.AgreeLaws.{shows_is_pool}
use Rattle.gt_objset.proofs.objset.ObjSet.is_pool.Goals as goal

pub returns-clause-content : goal.returns-clause-content
returns-clause-content c = λ base log h. c.pool_there.ensures ∙ shows_is_pool c.args.self.now base log c.args.at h c.requires.from c.requires.to c.args.path.now
