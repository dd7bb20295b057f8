use Rattle.std.proofs.Common.{◌∙◌}
use Rattle.gt_objset.proofs.AgreeLaws.{shows_pool}
use Rattle.gt_objset.proofs.objset.ObjSet.pool.Goals as goal

pub returns-clause-content : goal.returns-clause-content
returns-clause-content c = λ base log h. c.pool_path.ensures ∙ shows_pool c.args.self.now base log c.args.at h c.requires.from c.requires.to c.args.path.now
