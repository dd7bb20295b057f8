use Rattle.std.proofs.Common.{◌∙◌, ℕ, List, map, ap, sym, subst}
use Rattle.std.specs.List.{list_any}
use Rattle.gt_pool.specs.declared.worker.Worker.{Worker}
use Rattle.gt_pool.specs.Counting.{times, below}
use Rattle.gt_pool.specs.Working.{AreRun}
use Rattle.gt_pool.specs.Workers.{indices_of, AreGiven}
use Rattle.gt_pool.proofs.DoneLemmas.{done_home, done_run, done_given, done_once}
use Rattle.gt_pool.proofs.running.run_with.Goals as goal

pub gathered-requires-clause-home : goal.gathered-requires-clause-home
gathered-requires-clause-home g c =
    let none = ap (list_any (λ (w : Worker _ _). w.short)) (sym c.as_slice.ensures.value) ∙ sym c.is_short.ensures ∙ c.if-is_short.false in
    done_home (g.W.Work.gives c.args.work.now) (g.W.Work.steps c.args.work.now) c.in_ok-claims.claims c.args.tickets.now c.in_ok-workers.workers.items c.work_on_all.new.workers.items c.work_on_all.ensures.done none

pub in_order-requires-clause-given : goal.in_order-requires-clause-given
in_order-requires-clause-given g c = λ κs within.
    let none = ap (list_any (λ (w : Worker _ _). w.short)) (sym c.as_slice.ensures.value) ∙ sym c.is_short.ensures ∙ c.if-is_short.false in
    let h = done_given (g.W.Work.gives c.args.work.now) (g.W.Work.steps c.args.work.now) c.in_ok-claims.claims c.args.tickets.now c.in_ok-workers.workers.items c.work_on_all.new.workers.items c.work_on_all.ensures.done none in
    subst (AreGiven (g.W.Work.gives c.args.work.now)) (sym c.in_ok-all.ensures.pieces) h

pub in_order-requires-clause-once : goal.in_order-requires-clause-once
in_order-requires-clause-once g c = λ κs within x.
    let none = ap (list_any (λ (w : Worker _ _). w.short)) (sym c.as_slice.ensures.value) ∙ sym c.is_short.ensures ∙ c.if-is_short.false in
    let h = done_once (g.W.Work.gives c.args.work.now) (g.W.Work.steps c.args.work.now) c.in_ok-claims.claims c.args.tickets.now c.in_ok-workers.workers.items c.work_on_all.new.workers.items c.work_on_all.ensures.done none x in
    ap (λ ps. times x (indices_of ps)) c.in_ok-all.ensures.pieces ∙ h ∙ c.in_ok-all.ensures.once x ∙ ap (below x) c.in_ok-claims.ensures.0

pub returns-clause-kits : goal.returns-clause-kits
returns-clause-kits g c =
    let none = ap (list_any (λ (w : Worker _ _). w.short)) (sym c.as_slice.ensures.value) ∙ sym c.is_short.ensures ∙ c.if-is_short.false in
    let runs = done_run (g.W.Work.gives c.args.work.now) (g.W.Work.steps c.args.work.now) c.in_ok-claims.claims c.args.tickets.now c.in_ok-workers.workers.items c.work_on_all.new.workers.items c.work_on_all.ensures.done none in
    let indices : List (List ℕ) = map (λ (w : Worker _ _). w.claimer.claims) c.work_on_all.new.workers.items in
    record {
      indices = indices;
      runs = subst (λ ks. AreRun (g.W.Work.steps c.args.work.now) c.args.kits indices ks) (sym c.in_ok-all.ensures.kits) (subst (λ ks. AreRun (g.W.Work.steps c.args.work.now) ks indices (map (λ (w : Worker _ _). w.kit) c.work_on_all.new.workers.items)) c.in_ok-workers.ensures.kits runs);
      once = λ x. c.in_ok-all.ensures.once x ∙ ap (below x) (c.in_ok-claims.ensures.0 ∙ c.count-count.ensures);
    }
