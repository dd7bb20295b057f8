use Rattle.std.proofs.Common.{◌≡◌, false}
use Rattle.gt_pool.specs.Workers.{IsAt}
use Rattle.gt_pool.proofs.worker.work_on.Given as goal

abbrev pub invariant-claims : goal.invariant-claims
invariant-claims g l = record {
  on : l.worker.short ≡ false;
  so_far : IsAt (g.W.Work.gives l.work) (g.W.Work.steps l.work) l.claims l.tickets l.fn.worker.kit l.worker;
}
