use Rattle.std.proofs.Common.{◌≡◌, false, List, sym, ap, subst, ◌∙◌}
use Rattle.gt_journal.specs.Ledger.{front_of}
use Rattle.gt_table.specs.Table.{content}
use Rattle.gt_model.specs.Machine.{Pin, is_faulty, pin_of}
use Rattle.gt_pins.specs.Live.{ReadIn}
use Rattle.gt_pins.proofs.Positions.{reads_released}
use Rattle.gt_act.specs.PartitionState.{state_of}
use Rattle.gt_act.proofs.Causes.{sure_cause}
use Rattle.gt_act.proofs.Commits.{verdict_ends}
use Rattle.gt_act.proofs.Stepping.{fewer_by}
use Rattle.gt_act.proofs.committing.carry_out.Goals as goal

pub invariant_of-state : goal.invariant_of-state
invariant_of-state g c = record { reads = subst (λ (pins : List Pin). ReadIn c.args.state.now.journal.floor (front_of c.args.state.now.journal) pins) (sym c.release.ensures) (reads_released c.args.state.now.journal.floor (front_of c.args.state.now.journal) c.args.state.now.live c.args.pin.now c.args.state.now.reads) }

pub returns-in-Refused-clause-fewer : goal.returns-in-Refused-clause-fewer
returns-in-Refused-clause-fewer g c = fewer_by c.args.state.now.live _ c.args.pin.now c.release.ensures

pub returns-in-Refused-clause-cause : goal.returns-in-Refused-clause-cause
returns-in-Refused-clause-cause g c =
    let said = rw c.in-Refused.is at c.requires.checked in
    let sure : is_faulty c.refused.result.answer ≡ false = ap is_faulty c.refused.ensures.answer ∙ (verdict_ends (content c.args.state.now.journal.past) (pin_of (state_of c.args.state.now) c.args.pin.now).path c.args.stage.now.staged c.in-Refused.answer said.failed).1 in
    sure_cause _ c.refused.result.answer sure
