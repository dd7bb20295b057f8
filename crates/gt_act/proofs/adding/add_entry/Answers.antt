use Rattle.std.proofs.Common.{arith, refl}
use Rattle.gt_journal.specs.Ledger.{front_of}
use Rattle.gt_pins.proofs.Positions.{reads_later}
use Rattle.gt_act.proofs.adding.add_entry.Goals as goal

pub invariant_of-state : goal.invariant_of-state
invariant_of-state g c = record { reads = reads_later c.args.state.now.journal.floor _ (front_of c.args.state.now.journal) _ c.args.state.now.live (omega (arith, c.add.ensures.floor)) c.add.ensures.longer c.args.state.now.reads }

pub returns-in-Ok-clause-adds : goal.returns-in-Ok-clause-adds
returns-in-Ok-clause-adds g c = (refl, c.in-Ok.ensures.added c.args.state.now.live c.args.state.now.live)

pub returns-in-Ok-clause-moves : goal.returns-in-Ok-clause-moves
returns-in-Ok-clause-moves g c told = c.add.ensures.moves told c.args.state.now.live c.args.state.now.live

pub returns-in-Err-Unsure-clause-moves : goal.returns-in-Err-Unsure-clause-moves
returns-in-Err-Unsure-clause-moves g c told = c.add.ensures.moves told c.args.state.now.live c.args.state.now.live

pub returns-in-Err-Untouched-clause-moves : goal.returns-in-Err-Untouched-clause-moves
returns-in-Err-Untouched-clause-moves g c told = c.add.ensures.moves told c.args.state.now.live c.args.state.now.live

pub returns-in-Err-Memory-clause-moves : goal.returns-in-Err-Memory-clause-moves
returns-in-Err-Memory-clause-moves g c told = c.add.ensures.moves told c.args.state.now.live c.args.state.now.live
