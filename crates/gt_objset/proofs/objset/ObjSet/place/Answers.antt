use Rattle.std.proofs.Common.{◌∙◌, ap, is_some}
use Rattle.gt_objset.proofs.AgreeLaws.{shows_visible, shows_place}
use Rattle.gt_objset.proofs.objset.ObjSet.place.Goals as goal

pub returns-clause-visible : goal.returns-clause-visible
returns-clause-visible c = λ base log h. ap is_some c.seen_place.ensures ∙ shows_visible c.args.self.now base log c.args.at h c.requires.from c.requires.to c.args.path.now c.args.name.now

pub returns-clause-content : goal.returns-clause-content
returns-clause-content c = λ base places log h k. c.seen_place.ensures ∙ shows_place c.args.self.now base log c.args.at h c.requires.from c.requires.to places k c.args.path.now c.args.name.now
