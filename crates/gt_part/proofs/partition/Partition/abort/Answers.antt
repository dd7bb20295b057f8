use Rattle.std.proofs.Common.{◌≡◌, List, length, true, refl, ◌∙◌, arith, ap}
use Rattle.gt_model.specs.declared.event.Event.TheVariants.{Abort}
use Rattle.gt_model.specs.Machine.{Pin, is_faulty, is_live, released}
use Rattle.gt_pins.proofs.Numbers.{released_fewer}
use Rattle.gt_journal.specs.Ledger.{Ledger, known as ledger_known}
use Rattle.gt_part.specs.Shown.{Shown}
use Rattle.gt_act.specs.Ended.{answer_of}
use Rattle.gt_act.specs.declared.ended.Ended.{Ended}
use Rattle.gt_act.proofs.Causes.{sure_cause}
use Rattle.gt_part.proofs.Calling.{called}
use Rattle.gt_act.proofs.Stepping.{moves_pins}
use Rattle.gt_part.proofs.partition.Partition.abort.Goals as goal

pub abort-ended-requires : goal.abort-ended-requires
abort-ended-requires g c = ap (λ (p : Shown _). is_live p.live c.args.pin) c.self.view_is ∙ c.requires

pub invariant_of-self : goal.invariant_of-self
invariant_of-self g c =
    let pins = c.self.inside.state.live in
    let live : is_live pins c.args.pin ≡ true = ap (λ (p : Shown _). is_live p.live c.args.pin) c.self.view_is ∙ c.requires in
    let fewer : length c.abort-ended.new.state.live ≡ length (released pins c.args.pin) = ap (λ (l : List Pin). length l) c.abort-ended.ensures.live in
    (c.self.invariant.0, c.self.invariant.1, omega (arith, fewer, released_fewer pins c.args.pin live, c.self.invariant.2, c.note.ensures.room))

pub returns-clause-called : goal.returns-clause-called
returns-clause-called g c = rw (← c.self.view_is) (
    let e = c.abort-ended.ensures in
    let asked : Abort c.number.result ≡ Abort c.args.pin = ap Abort c.number.ensures in
    called _ _ _ _ _ _ _ _ _ _ _ _ _ _ asked (c.note.ensures.answer ∙ c.of.ensures.answer) c.of.ensures.kept c.tick-tick.ensures refl refl c.note.ensures.opening refl c.note.ensures.turns tt e.step (sure_cause _ _ (ap (λ (e : Ended). is_faulty (answer_of e)) e.always)) (omega arith) (λ told. moves_pins _ _ _ _ _ _ e.journal) (ap (λ (l : Ledger). ledger_known l) e.journal))
