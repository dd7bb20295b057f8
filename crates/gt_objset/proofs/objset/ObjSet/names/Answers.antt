use Rattle.std.proofs.Common.{◌∙◌}
use Rattle.gt_model.specs.Contents.{at}
use Rattle.gt_objset.specs.Agree.{Agrees}
use Rattle.gt_objset.proofs.AgreeLaws.{shows_pool}
use Rattle.gt_objset.proofs.MergeLaws.{alone, ok_together}
use Rattle.gt_objset.proofs.objset.ObjSet.names.Goals as goal

pub returns-in-None : goal.returns-in-None
returns-in-None c = λ base log h. c.in-Ok.ensures base log h
    ∙ alone (at c.args.self.now.floor base log c.args.at) c.args.path.now (c.in-None.ensures ∙ shows_pool c.args.self.now base log c.args.at h c.requires.from c.requires.to c.args.path.now)

pub returns-in-Ok-own : goal.returns-in-Ok-own
returns-in-Ok-own c = ok_together c.in_one.result (λ base log. Agrees c.args.self.now base log) (λ base log. at c.args.self.now.floor base log c.args.at) c.args.path.now c.in-Some.pool.now
    c.in-Ok.own c.in-Ok-own.shared c.as_slice.result.now c.as_slice-in-Ok-own.result.now c.as_slice.ensures c.as_slice-in-Ok-own.ensures
    (λ base log h. c.in-Some.ensures ∙ shows_pool c.args.self.now base log c.args.at h c.requires.from c.requires.to c.args.path.now)
    c.in-Ok.ensures c.in-Ok-own.ensures c.in_one.ensures.ordered c.in_one.ensures.names
