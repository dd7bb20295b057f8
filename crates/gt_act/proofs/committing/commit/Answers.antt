use Rattle.std.proofs.Common.{arith, rules, ◌≡◌, true, false, refl, ap, ◌∙◌, not}
use Rattle.gt_journal.specs.Ledger.{front_of}
use Rattle.gt_model.specs.declared.event.Event.TheVariants.{Commit}
use Rattle.gt_model.specs.Machine.{is_empty, is_live_as, is_transaction}
use Rattle.gt_pins.proofs.Positions.{reads_later}
use Rattle.gt_act.specs.PartitionState.{state_of}
use Rattle.gt_act.specs.Ended.{answer_of}
use Rattle.gt_act.proofs.Stepping.{then_acts, settling_moves, settled_moves, fewer_by, finish_steps}
use Rattle.gt_act.proofs.committing.commit.Goals as goal

pub invariant_of-state : goal.invariant_of-state
invariant_of-state g c = record { reads = reads_later c.args.state.now.journal.floor _ (front_of c.args.state.now.journal) _ c.args.state.now.live (omega (arith, c.settle.ensures.floor)) c.settle.ensures.longer c.args.state.now.reads }

pub returns-then-is_empty-clause-fewer : goal.returns-then-is_empty-clause-fewer
returns-then-is_empty-clause-fewer g c = fewer_by c.args.state.now.live _ c.args.pin.now c.finish.ensures.live

pub returns-in-Err-clause-moves : goal.returns-in-Err-clause-moves
returns-in-Err-clause-moves g c told = settling_moves c.args.limits.now (state_of c.args.state.now) _ _ _ (c.settle.ensures.moves told c.args.limits.now _ _)

pub returns-clause-moves : goal.returns-clause-moves
returns-clause-moves g c told =
    settled_moves c.args.limits.now (state_of c.args.state.now) _ _ _ _ _ (c.in_default.ensures.settles c.args.state.now.live) c.in_default.ensures.settled (c.settle.ensures.moves told c.args.limits.now _ _) (c.carry_out.ensures.moves told)

pub returns-then-is_empty-clause-step : goal.returns-then-is_empty-clause-step
returns-then-is_empty-clause-step g c =
    let refs = c.args.stage.now.staged.refs in
    let records = c.args.stage.now.staged.records in
    let live : is_live_as is_transaction c.args.state.now.live c.args.pin.now ≡ true = c.are_transactions.ensures c.args.pin.now ∙ c.requires in
    let none : is_empty refs records ≡ true = search rules in
    finish_steps c.args.limits.now c.args.state.now.journal c.finish.new.state.journal c.args.state.now.live c.finish.new.state.live c.args.pin.now refs records c.of.result.answer live none
    (c.of.ensures.answer ∙ ap answer_of c.finish.ensures.answer) c.finish.ensures.journal c.finish.ensures.live

pub returns-clause-step : goal.returns-clause-step
returns-clause-step g c =
    let refs = c.args.stage.now.staged.refs in
    let records = c.args.stage.now.staged.records in
    let live : is_live_as is_transaction c.args.state.now.live c.args.pin.now ≡ true = c.are_transactions.ensures c.args.pin.now ∙ c.requires in
    let some : is_empty refs records ≡ false = search rules in
    then_acts c.args.limits.now (Commit c.args.pin.now refs records) (state_of c.args.state.now) _ _ _ live (ap not some) refl (c.in_default.ensures.settles c.args.state.now.live) c.carry_out.ensures.acts
