use Rattle.std.proofs.lemmas.Result.{err_from_is_err_and}
use Rattle.gt_base.proofs.Switches.{doubts_on}
use Rattle.gt_base.proofs.base.Base.settle.Goals as goal

pub returns-in_err-epoch-clause-after : goal.returns-in_err-epoch-clause-after
returns-in_err-epoch-clause-after g c told to turns =
    let p = err_from_is_err_and c.from_residual.result c.from_residual.ensures.1 in
    rw p.1 (doubts_on c.args.self.now.manifest.epoch to _ _ turns (g.met.D.Disk.shows c.args.disk.now told) (c.mount_turn.ensures.run told))
