use Rattle.std.proofs.Common.{inl, List, arith, refl, sym, subst}
use Rattle.gt_journal.specs.Ledger.{front_of}
use Rattle.gt_model.specs.Machine.{Pin}
use Rattle.gt_pins.specs.Live.{ReadIn}
use Rattle.gt_pins.proofs.Positions.{reads_later, reads_released}
use Rattle.gt_act.proofs.Stepping.{fewer_by, write_adds}
use Rattle.gt_act.proofs.committing.add_write.Goals as goal

pub invariant_of-state : goal.invariant_of-state
invariant_of-state g c =
    let j = c.add.new.self in
    let later = reads_later c.args.state.now.journal.floor j.floor (front_of c.args.state.now.journal) (front_of j) c.args.state.now.live (omega (arith, c.add.ensures.floor)) c.add.ensures.longer c.args.state.now.reads in
    record { reads = subst (λ (pins : List Pin). ReadIn j.floor (front_of j) pins) (sym c.release.ensures) (reads_released j.floor (front_of j) c.args.state.now.live c.args.pin.now later) }

pub invariant_of-state-in-Err-Unsure : goal.invariant_of-state-in-Err-Unsure
invariant_of-state-in-Err-Unsure g c =
    let j = c.add.new.self in
    let later = reads_later c.args.state.now.journal.floor j.floor (front_of c.args.state.now.journal) (front_of j) c.args.state.now.live (omega (arith, c.add.ensures.floor)) c.add.ensures.longer c.args.state.now.reads in
    record { reads = subst (λ (pins : List Pin). ReadIn j.floor (front_of j) pins) (sym c.release-in-Err-Unsure.ensures) (reads_released j.floor (front_of j) c.args.state.now.live c.args.pin.now later) }

pub returns-in-Ok-clause-adds : goal.returns-in-Ok-clause-adds
returns-in-Ok-clause-adds g c = inl (write_adds c.args.state.now.journal c.add.new.self c.args.state.now.live _ c.args.entry c.args.pin.now _ refl c.release.ensures (c.in-Ok.ensures.added c.args.state.now.live c.release.new.self))

pub returns-in-Ok-clause-fewer : goal.returns-in-Ok-clause-fewer
returns-in-Ok-clause-fewer g c = fewer_by c.args.state.now.live _ c.args.pin.now c.release.ensures

pub returns-in-Err-Unsure-clause-fewer : goal.returns-in-Err-Unsure-clause-fewer
returns-in-Err-Unsure-clause-fewer g c = fewer_by c.args.state.now.live _ c.args.pin.now c.release-in-Err-Unsure.ensures

pub returns-in-Ok-clause-moves : goal.returns-in-Ok-clause-moves
returns-in-Ok-clause-moves g c told = c.add.ensures.moves told c.args.state.now.live c.release.new.self

pub returns-in-Err-Unsure-clause-moves : goal.returns-in-Err-Unsure-clause-moves
returns-in-Err-Unsure-clause-moves g c told = c.add.ensures.moves told c.args.state.now.live c.release-in-Err-Unsure.new.self

pub returns-in-Err-Untouched-clause-moves : goal.returns-in-Err-Untouched-clause-moves
returns-in-Err-Untouched-clause-moves g c told = c.add.ensures.moves told c.args.state.now.live c.args.state.now.live

pub returns-in-Err-Memory-clause-moves : goal.returns-in-Err-Memory-clause-moves
returns-in-Err-Memory-clause-moves g c told = c.add.ensures.moves told c.args.state.now.live c.args.state.now.live
