use Rattle.std.proofs.Common.{◌≡◌, ◌∙◌, List, length, ap, sym, subst}
use Rattle.gt_pool.specs.declared.worker.Worker.{Worker}
use Rattle.gt_pool.specs.Workers.{AreDone}
use Rattle.gt_pool.proofs.DoneLemmas.{kept_whole}
use Rattle.gt_pool.proofs.running.work_on_all.Goals as goal

pub returns-clause-done : goal.returns-clause-done
returns-clause-done g c =
    let len : length c.all_work.new.workers ≡ length c.args.workers.now.items = c.all_work.auto.workers ∙ ap length c.as_mut_slice.ensures.value in
    let whole = kept_whole c.args.workers.now.len c.all_work.new.workers c.args.workers.now.items len c.args.workers.now.ok.0 in
    let Before : List (Worker _ _) → Type 0 = λ ws. AreDone (g.W.Work.gives c.args.work.now) (g.W.Work.steps c.args.work.now) c.args.claims.now c.args.tickets.now ws c.all_work.new.workers in
    let After : List (Worker _ _) → Type 0 = λ ws. AreDone (g.W.Work.gives c.args.work.now) (g.W.Work.steps c.args.work.now) c.args.claims.now c.args.tickets.now c.args.workers.now.items ws in
    subst After (sym whole) (subst Before c.as_mut_slice.ensures.value c.all_work.ensures)

pub returns-clause-len : goal.returns-clause-len
returns-clause-len g c =
    let len : length c.all_work.new.workers ≡ length c.args.workers.now.items = c.all_work.auto.workers ∙ ap length c.as_mut_slice.ensures.value in
    ap length (kept_whole c.args.workers.now.len c.all_work.new.workers c.args.workers.now.items len c.args.workers.now.ok.0) ∙ len
