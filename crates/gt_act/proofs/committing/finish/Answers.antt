use Rattle.std.proofs.Common.{List, sym, subst}
use Rattle.gt_journal.specs.Ledger.{front_of}
use Rattle.gt_model.specs.Machine.{Pin}
use Rattle.gt_pins.specs.Live.{ReadIn}
use Rattle.gt_pins.proofs.Positions.{reads_released}
use Rattle.gt_act.proofs.committing.finish.Goals as goal

pub invariant_of-state : goal.invariant_of-state
invariant_of-state c = record { reads = subst (λ (pins : List Pin). ReadIn c.args.state.now.journal.floor (front_of c.args.state.now.journal) pins) (sym c.release.ensures) (reads_released c.args.state.now.journal.floor (front_of c.args.state.now.journal) c.args.state.now.live c.args.pin.now c.args.state.now.reads) }
