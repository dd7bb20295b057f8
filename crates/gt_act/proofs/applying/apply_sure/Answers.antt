use Rattle.std.proofs.Common.{arith, sym, ap, subst, IsTrue, Option, Some, None}
use Rattle.std.specs.Prelude.{is_some}
use Rattle.std.specs.Option.{option_map}
use Rattle.gt_manifest.specs.declared.manifest.Manifest.{Manifest}
use Rattle.gt_journal.specs.Ledger.{Ledger, front_of, applying, state_of as ledger_state}
use Rattle.gt_pins.specs.Live.{ReadIn}
use Rattle.gt_pins.proofs.Positions.{reads_later}
use Rattle.gt_table.specs.Table.{front}
use Rattle.gt_model.specs.Machine.{State}
use Rattle.gt_act.specs.Causes.{application_calls}
use Rattle.gt_act.specs.PartitionState.{state_of}
use Rattle.gt_act.proofs.Applied.{turn_same, turn_acts, turn_fails, turned_goes, turning_goes}
use Rattle.gt_act.proofs.applying.apply_sure.Goals as goal

pub invariant_of-state : goal.invariant_of-state
invariant_of-state g c = record { reads = reads_later c.args.state.now.journal.floor _ (front_of c.args.state.now.journal) _ c.args.state.now.live (omega (arith, c.settle_turn.ensures.floor)) (omega (arith, ap front c.settle_turn.ensures.past)) c.args.state.now.reads }

-- an application is in doubt where a manifest is
doubted_of : (o : Option Manifest) → IsTrue (is_some o) → IsTrue (is_some (option_map applying o))
doubted_of None is = absurd (cc is)
doubted_of (Some m) is = is

pub returns-in-Err-clause-acts : goal.returns-in-Err-clause-acts
returns-in-Err-clause-acts g c = turn_fails c.args.limits.now c.args.n (state_of c.args.state.now) _ (doubted_of c.args.state.now.journal.base.doubt c.in-Err.ensures.in_doubt) (ap (λ (l : Ledger). ledger_state l c.args.state.now.live) c.in-Err.ensures.same)

pub returns-in-Err-clause-goes : goal.returns-in-Err-clause-goes
returns-in-Err-clause-goes g c told stored r = turning_goes c.args.limits.now _ _ _ _ (c.settle_turn.ensures.goes told c.args.limits.now c.args.state.now.live c.args.state.now.live r)

pub returns-in-Err-clause-remembers : goal.returns-in-Err-clause-remembers
returns-in-Err-clause-remembers g c told stored r = c.settle_turn.ensures.remembers told r

pub returns-clause-acts : goal.returns-clause-acts
returns-clause-acts g c = turn_acts c.args.limits.now c.args.n (state_of c.args.state.now) _ _ _ (c.in_default.ensures.settles c.args.state.now.live) c.apply_settled.ensures.acts

pub returns-clause-goes : goal.returns-clause-goes
returns-clause-goes g c told stored r =
    let settling = c.settle_turn.ensures.goes told c.args.limits.now c.args.state.now.live c.args.state.now.live r in
    let later = c.settle_turn.ensures.remembers told r in
    turned_goes c.args.limits.now (state_of c.args.state.now) _ _ _ _ _ c.requires.settled (c.in_default.ensures.settles c.args.state.now.live) (ap (option_map applying) c.in_default.ensures.settled) settling (c.apply_settled.ensures.goes told (settling stored).0 later)

pub returns-clause-remembers : goal.returns-clause-remembers
returns-clause-remembers g c told stored r =
    let settling = c.settle_turn.ensures.goes told c.args.limits.now c.args.state.now.live c.args.state.now.live r in
    let later = c.settle_turn.ensures.remembers told r in
    c.apply_settled.ensures.remembers told (settling stored).0 later

pub returns-clause-counted : goal.returns-clause-counted
returns-clause-counted g c flat =
    let old = state_of c.args.state.now in
    let same = turn_same old _ (ap (option_map applying) flat) (c.in_default.ensures.settles c.args.state.now.live) in
    omega (arith, c.apply_settled.ensures.counted, ap (λ (s : State). application_calls s c.args.n) same, ap g.D.Disk.call_count (c.settle_turn.ensures.idle flat))
