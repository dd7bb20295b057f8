use Rattle.std.proofs.Common.{arith, refl}
use Rattle.gt_journal.specs.Ledger.{front_of}
use Rattle.gt_model.specs.declared.event.Event.TheVariants.{Create}
use Rattle.gt_pins.proofs.Positions.{reads_later}
use Rattle.gt_act.specs.PartitionState.{state_of}
use Rattle.gt_act.proofs.Stepping.{then_acts, settling_moves, settled_moves}
use Rattle.gt_act.proofs.creating.create.Goals as goal

pub invariant_of-state : goal.invariant_of-state
invariant_of-state g c = record { reads = reads_later c.args.state.now.journal.floor _ (front_of c.args.state.now.journal) _ c.args.state.now.live (omega (arith, c.settle.ensures.floor)) c.settle.ensures.longer c.args.state.now.reads }

pub returns-in-Err-clause-moves : goal.returns-in-Err-clause-moves
returns-in-Err-clause-moves g c told = settling_moves c.args.limits.now (state_of c.args.state.now) _ _ _ (c.settle.ensures.moves told c.args.limits.now _ _)

pub returns-clause-step : goal.returns-clause-step
returns-clause-step g c = then_acts c.args.limits.now (Create c.args.path.now c.args.pool) (state_of c.args.state.now) _ _ _ refl refl refl (c.in_default.ensures.settles c.args.state.now.live) c.create_settled.ensures.acts

pub returns-clause-moves : goal.returns-clause-moves
returns-clause-moves g c told =
    settled_moves c.args.limits.now (state_of c.args.state.now) _ _ _ _ _ (c.in_default.ensures.settles c.args.state.now.live) c.in_default.ensures.settled (c.settle.ensures.moves told c.args.limits.now _ _) (c.create_settled.ensures.moves told)
