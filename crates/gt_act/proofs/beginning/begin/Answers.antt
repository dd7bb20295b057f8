use Rattle.std.proofs.Common.{arith, refl}
use Rattle.gt_journal.specs.Ledger.{front_of}
use Rattle.gt_model.specs.declared.event.Event.TheVariants.{Begin}
use Rattle.gt_pins.proofs.Positions.{reads_later}
use Rattle.gt_act.specs.PartitionState.{state_of}
use Rattle.gt_act.proofs.Stepping.{then_acts, settling_moves, settling_pins}
use Rattle.gt_act.proofs.beginning.begin.Goals as goal

pub invariant_of-state : goal.invariant_of-state
invariant_of-state g c = record { reads = reads_later c.args.state.now.journal.floor _ (front_of c.args.state.now.journal) _ c.args.state.now.live (omega (arith, c.settle.ensures.floor)) c.settle.ensures.longer c.args.state.now.reads }

pub returns-in-Err-clause-moves : goal.returns-in-Err-clause-moves
returns-in-Err-clause-moves g c told = settling_moves c.args.limits.now (state_of c.args.state.now) _ _ _ (c.settle.ensures.moves told c.args.limits.now _ _)

pub returns-clause-step : goal.returns-clause-step
returns-clause-step g c = then_acts c.args.limits.now (Begin c.args.path.now c.args.seen) (state_of c.args.state.now) _ _ _ refl refl refl (c.in_default.ensures.settles c.args.state.now.live) c.begin_settled.ensures.acts

pub returns-clause-moves : goal.returns-clause-moves
returns-clause-moves g c told =
    settling_pins c.args.limits.now (state_of c.args.state.now) _ c.begin_settled.new.state.journal c.args.state.now.live c.begin_settled.new.state.live _ _ c.begin_settled.ensures.journal (c.settle.ensures.moves told c.args.limits.now c.args.state.now.live c.args.state.now.live)
