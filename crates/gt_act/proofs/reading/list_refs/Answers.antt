use Rattle.std.proofs.Common.{◌≡◌, nat_eq, arith, ap}
use Rattle.gt_table.specs.Table.{front}
use Rattle.gt_journal.specs.Ledger.{front_of}
use Rattle.gt_model.specs.Machine.{Pin, pin_of as pin_in}
use Rattle.gt_act.specs.PartitionState.{state_of}
use Rattle.gt_pins.specs.Live.{pin_of}
use Rattle.gt_pins.proofs.Positions.{reads_found}
use Rattle.gt_act.proofs.Stepping.{found_pin}
use Rattle.gt_act.proofs.Looking.{refs_read}
use Rattle.gt_act.proofs.reading.list_refs.Goals as goal

pub list_at-requires : goal.list_at-requires
list_at-requires c =
    let r = reads_found c.args.state.now.journal.floor (front_of c.args.state.now.journal) (λ (p : Pin). nat_eq p.number c.args.pin.now) c.args.state.now.live (pin_of c.get-live.result.now) c.args.state.now.reads c.get-live.ensures in
    record { from = omega (arith, r.0, c.table.ensures.floor); to = omega (arith, r.1, ap front c.table.ensures.past) }

pub returns-in-Ok-clause-step : goal.returns-in-Ok-clause-step
returns-in-Ok-clause-step c =
    let s = state_of c.args.state.now in
    let p = pin_of c.get-live.result.now in
    let here : pin_in s c.args.pin.now ≡ p = found_pin c.args.state.now.journal c.args.state.now.live c.args.pin.now p c.get-live.ensures in
    refs_read c.args.limits.now c.args.state.now.journal c.args.state.now.live c.args.pin.now c.requires p here c.args.prefix.now c.in-Ok.list (rw c.table.ensures.past at c.in-Ok.ensures)
