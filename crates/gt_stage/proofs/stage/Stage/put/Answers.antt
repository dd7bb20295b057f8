use Rattle.std.proofs.Common.{ap}
use Rattle.gt_stage.specs.Staging.{Holding}
use Rattle.gt_stage.proofs.Tables.{put_there}
use Rattle.gt_stage.proofs.stage.Stage.put.Goals as goal

pub returns-then-has-clause-ok : goal.returns-then-has-clause-ok
returns-then-has-clause-ok c =
    put_there c.args.self.now c.self.inside.records c.args.whole c.name-name.result c.has.result (ap (λ (h : Holding). h.staged.records) c.self.view_is) c.name-name.ensures c.has.ensures c.if-has.true
