use Rattle.gt_write.proofs.checking.check_commit.Goals as goal

pub returns-in-Err : goal.returns-in-Err
returns-in-Err g c = c.refused.ensures c.args.limits.now c.args.front (g.L.Look.content c.args.content.now) c.args.path.now c.args.stage.now.staged c.in-Err.ensures.is
