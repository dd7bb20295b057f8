-- At each happening of a run its state is in order, and what was acknowledged is in its log.
use Rattle.std.proofs.Common.{ℕ, ◌≤◌, max, nat_lt, Bool, true, false, cond, List, [], ◌∷◌, ap, arith}
use Rattle.gt_model.specs.declared.limits.Limits.{Limits}
use Rattle.gt_model.specs.Machine.{State, front, IsInOrder}
use Rattle.gt_model.specs.Histories.{Happening, event, opened, tick, state, position, acks, last_state, acked, Happens, IsRun}
use Rattle.gt_model.proofs.Steps.{step_grows, step_acked, grown_longer, kept_acked}
use Rattle.gt_model.proofs.Openings.{opening_part}

-- it is in order, its log is no shorter, and what was acknowledged is in it
record Grown (old : State) (h : Happening) : Type 0 where
  pub order : IsInOrder (state h)
  pub log : front old ≤ front (state h)
  pub acked : acks h ≤ front (state h)

happens_grows : (limits : Limits) (old : State) (h : Happening) → IsInOrder old → Happens limits old h → Grown old h
happens_grows limits old (event turn new) order (answer, step, kept_is) =
    let g = step_grows limits old turn.event answer new order step in
    let longer = grown_longer old new g in
    record { order = g.order; log = longer; acked = omega (arith, ap position kept_is, kept_acked old turn.event answer (front new) order longer (step_acked limits old turn.event answer new order step)) }
happens_grows limits old (opened t new) order s = let g = opening_part old new order s in record { order = g.0; log = g.1.longer; acked = omega arith }

pub run_order : (limits : Limits) (start : State) (history : List Happening) → IsRun limits start history → IsInOrder (last_state start history)
run_order limits start [] run = run
run_order limits start (h ∷ older) run = (happens_grows limits (last_state start older) h (run_order limits start older run.0) run.1).order

acked_step : (b : Bool) (n a top : ℕ) → n ≤ top → a ≤ top → max (cond b 0 n) a ≤ top
acked_step true n a top le le2 = omega arith
acked_step false n a top le le2 = omega arith

-- what a run acknowledged is in its log
pub run_acked : (limits : Limits) (start : State) (history : List Happening) (m : ℕ) → IsRun limits start history → acked start history m ≤ front (last_state start history)
run_acked limits start [] m run = omega arith
run_acked limits start (h ∷ older) m run =
    let g = happens_grows limits (last_state start older) h (run_order limits start older run.0) run.1 in
    acked_step (nat_lt m (tick h)) (acks h) (acked start older m) (front (state h)) g.acked (omega (arith, g.log, run_acked limits start older m run.0))
