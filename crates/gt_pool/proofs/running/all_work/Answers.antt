use Rattle.std.proofs.Common.{get_or, subst}
use Rattle.gt_pool.specs.declared.worker.Worker.{Worker}
use Rattle.gt_pool.specs.Workers.{IsDone}
use Rattle.gt_pool.proofs.DoneLemmas.{done_each}
use Rattle.gt_pool.proofs.running.all_work.Goals as goal

pub returns : goal.returns
returns g c = done_each (g.W.Work.gives c.args.work.now) (g.W.Work.steps c.args.work.now) c.args.claims.now c.args.tickets.now c.args.workers.now c.for_each_mut.new.s c.for_each_mut.auto.s (λ i d lt.
    let at = (c.for_each_mut.ensures i d lt).1 in
    let Before : Worker _ _ → Type 0 = λ w. IsDone (g.W.Work.gives c.args.work.now) (g.W.Work.steps c.args.work.now) c.args.claims.now c.args.tickets.now w.kit at.after_call.now in
    let After : Worker _ _ → Type 0 = λ v. IsDone (g.W.Work.gives c.args.work.now) (g.W.Work.steps c.args.work.now) c.args.claims.now c.args.tickets.now (get_or c.args.workers.now i d).kit v in
    subst After at.left (subst Before at.argument_is at.call))
