use Rattle.std.proofs.Common.{ap}
use Rattle.gt_stage.specs.Staging.{Holding}
use Rattle.gt_stage.proofs.Tables.{check_there}
use Rattle.gt_stage.proofs.stage.Stage.verify.Goals as goal

pub returns-then-has-clause-ok : goal.returns-then-has-clause-ok
returns-then-has-clause-ok c =
    check_there c.args.self.now c.self.inside.refs c.args.name c.args.old c.has.result (ap (λ (h : Holding). h.staged.refs) c.self.view_is) c.has.ensures c.if-has.true
