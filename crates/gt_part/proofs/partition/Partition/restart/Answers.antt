use Rattle.std.proofs.Common.{ap}
use Rattle.gt_part.specs.Shown.{Shown}
use Rattle.gt_part.proofs.Histories.{restarted_by, reopened_in_vain}
use Rattle.gt_part.proofs.partition.Partition.restart.Goals as goal

pub returns-clause-settles : goal.returns-clause-settles
returns-clause-settles g c told start begin history run =
    let kept = ap (λ (s : Shown _). s.limits) c.self.view_is in
    (restarted_by g.D.Disk.view start begin history c.args.self c.unmount.result c.unmount.ensures (g.met.D.Disk.shows c.args.self.disk told) run _ _ kept c.mount.result
    c.mount.ensures.kept (c.mount.ensures.answer told) c.mount.ensures.empty (c.mount.ensures.moments told) (c.mount.ensures.good_moments told) (c.mount.ensures.run told)).0

pub returns-clause-run : goal.returns-clause-run
returns-clause-run g c told start begin history run =
    let kept = ap (λ (s : Shown _). s.limits) c.self.view_is in
    (restarted_by g.D.Disk.view start begin history c.args.self c.unmount.result c.unmount.ensures (g.met.D.Disk.shows c.args.self.disk told) run _ _ kept c.mount.result
    c.mount.ensures.kept (c.mount.ensures.answer told) c.mount.ensures.empty (c.mount.ensures.moments told) (c.mount.ensures.good_moments told) (c.mount.ensures.run told)).1

pub returns-clause-answer : goal.returns-clause-answer
returns-clause-answer g c told =
    let kept = ap (λ (s : Shown _). s.limits) c.self.view_is in
    let here = rw c.unmount.ensures at (c.mount.ensures.answer told) in
    rw kept at here

pub returns-clause-moments_in_vain : goal.returns-clause-moments_in_vain
returns-clause-moments_in_vain g c told = rw c.unmount.ensures at (c.mount.ensures.moments_in_vain told)

pub returns-clause-in_vain : goal.returns-clause-in_vain
returns-clause-in_vain g c told start begin history run =
    let narrows = rw c.unmount.ensures at (c.mount.ensures.moments_in_vain told) in
    let kept = ap (λ (s : Shown _). s.limits) c.self.view_is in
    let unmounted = rw c.unmount.ensures at (c.mount.ensures.good_moments_in_vain told) in
    let moments = rw kept at unmounted in
    reopened_in_vain g.D.Disk.view start begin history c.args.self run c.mount.result narrows moments
