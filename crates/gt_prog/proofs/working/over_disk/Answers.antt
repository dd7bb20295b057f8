use Rattle.gt_prog.proofs.Ends.{ends_in_part, never_of}
use Rattle.gt_prog.proofs.PlaySteps.{replayed, replayed_part, never_damaged}
use Rattle.gt_prog.proofs.working.over_disk.Goals as goal

pub returns-in-Ok-play-clause-ends : goal.returns-in-Ok-play-clause-ends
returns-in-Ok-play-clause-ends g c =
    replayed g.D.Disk.tells g.D.Disk.view g.D.Disk.fault_count c.args.limits c.args.requests.now c.args.disk c.in-Ok.partition c.in-Ok.ensures.answer c.in-Ok.ensures.kept.1 c.in-Ok.ensures.moments c.in-Ok.ensures.run c.in-Ok.ensures.sure c.in-Ok.ensures.opened
    c.in-Ok-play.partition c.unmount.result _ _ c.unmount.ensures c.in-Ok-play.ensures.played

pub returns-in-Err-play-clause-ends : goal.returns-in-Err-play-clause-ends
returns-in-Err-play-clause-ends g c =
    ends_in_part g.D.Disk.tells c.args.limits c.args.requests.now (g.D.Disk.view c.args.disk) (g.D.Disk.view c.in-Err-play.error.disk) (g.D.Disk.fault_count c.args.disk) (g.D.Disk.fault_count c.in-Err-play.error.disk) _ _ c.in-Err-play.error.cause c.status_of_play-status.result c.status_of_play-status.ensures
    (replayed_part g.D.Disk.tells g.D.Disk.view g.D.Disk.fault_count c.args.limits c.args.requests.now c.args.disk c.in-Ok.partition c.in-Ok.ensures.answer c.in-Ok.ensures.kept.1 c.in-Ok.ensures.moments c.in-Ok.ensures.run c.in-Ok.ensures.sure c.in-Ok.ensures.opened c.in-Err-play.error.cause c.in-Err-play.error.disk _ _ c.in-Err-play.ensures.part)

pub returns-in-Err-play-clause-undamaged : goal.returns-in-Err-play-clause-undamaged
returns-in-Err-play-clause-undamaged g c told good number file at =
    never_of c.in-Err-play.error.cause c.status_of_play-status.result c.status_of_play-status.ensures
    (λ f a is.
    never_damaged g.D.Disk.tells g.D.Disk.view g.D.Disk.fault_count c.args.limits c.args.requests.now c.args.disk c.in-Ok.partition c.in-Ok.ensures.answer c.in-Ok.ensures.kept.1 c.in-Ok.ensures.moments c.in-Ok.ensures.run c.in-Ok.ensures.sure c.in-Ok.ensures.opened c.in-Err-play.error.cause c.in-Err-play.error.disk _ _ f a
    c.in-Err-play.ensures.part told good (g.met.D.Disk.shows c.in-Err-play.error.disk) (c.in-Err-play.ensures.damaged f a is told)) number file at
