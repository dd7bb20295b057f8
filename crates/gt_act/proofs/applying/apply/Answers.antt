use Rattle.std.proofs.Common.{◌∙◌, arith, ap}
use Rattle.gt_journal.specs.Ledger.{Known, front_of}
use Rattle.gt_journal.proofs.Turns.{remembers_kept}
use Rattle.gt_pins.proofs.Positions.{reads_later}
use Rattle.gt_model.specs.Machine.{State}
use Rattle.gt_act.specs.Causes.{application_calls}
use Rattle.gt_act.specs.PartitionState.{state_of}
use Rattle.gt_act.proofs.Applied.{entry_same, entry_steps, entry_goes, turning_goes}
use Rattle.gt_act.proofs.applying.apply.Goals as goal

pub invariant_of-state : goal.invariant_of-state
invariant_of-state g c = record { reads = reads_later c.args.state.now.journal.floor _ (front_of c.args.state.now.journal) _ c.args.state.now.live (omega (arith, c.settle.ensures.floor)) c.settle.ensures.longer c.args.state.now.reads }

pub returns-in-Err-clause-goes : goal.returns-in-Err-clause-goes
returns-in-Err-clause-goes g c told stored r = turning_goes c.args.limits.now _ _ _ _ (c.settle.ensures.moves told c.args.limits.now c.args.state.now.live c.args.state.now.live).0

pub returns-in-Err-clause-remembers : goal.returns-in-Err-clause-remembers
returns-in-Err-clause-remembers g c told stored r = remembers_kept c.args.state.now.journal _ (g.D.Disk.view c.args.disk.now) (g.D.Disk.view c.settle.new.disk) c.settle.ensures.known ((c.settle.ensures.moves told c.args.limits.now c.args.state.now.live c.args.state.now.live).1 stored) r

pub returns-clause-step : goal.returns-clause-step
returns-clause-step g c = entry_steps c.args.limits.now c.args.n (state_of c.args.state.now) _ _ _ (c.in_default.ensures.settles c.args.state.now.live) c.apply_sure.ensures.acts

pub returns-clause-goes : goal.returns-clause-goes
returns-clause-goes g c told stored r =
    let moves = c.settle.ensures.moves told c.args.limits.now c.args.state.now.live c.args.state.now.live in
    let later = remembers_kept c.args.state.now.journal _ (g.D.Disk.view c.args.disk.now) (g.D.Disk.view c.settle.new.disk) c.settle.ensures.known (moves.1 stored) r in
    entry_goes c.args.limits.now (state_of c.args.state.now) _ _ _ _ _ (c.in_default.ensures.settles c.args.state.now.live) c.in_default.ensures.settled moves.0 (c.apply_sure.ensures.goes told (moves.0 stored).0 later)

pub returns-clause-remembers : goal.returns-clause-remembers
returns-clause-remembers g c told stored r =
    let moves = c.settle.ensures.moves told c.args.limits.now c.args.state.now.live c.args.state.now.live in
    let later = remembers_kept c.args.state.now.journal _ (g.D.Disk.view c.args.disk.now) (g.D.Disk.view c.settle.new.disk) c.settle.ensures.known (moves.1 stored) r in
    c.apply_sure.ensures.remembers told (moves.0 stored).0 later

pub returns-clause-counted : goal.returns-clause-counted
returns-clause-counted g c clear flat =
    let old = state_of c.args.state.now in
    let same = entry_same old _ clear (c.in_default.ensures.settles c.args.state.now.live) in
    let later = c.apply_sure.ensures.counted (ap (λ (k : Known). k.1.0.doubt) c.settle.ensures.known ∙ flat) in
    omega (arith, later, ap (λ (s : State). application_calls s c.args.n) same, ap g.D.Disk.call_count (c.settle.ensures.idle clear))
