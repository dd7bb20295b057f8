use Rattle.std.proofs.Common.{◌≡◌, refl, ap, ◌∙◌, arith}
use Rattle.std.proofs.Common.{List}
use Rattle.gt_model.specs.Machine.{Pin, is_live}
use Rattle.gt_part.specs.Shown.{Shown}
use Rattle.gt_model.specs.declared.event.Event.TheVariants.{GetRef}
use Rattle.gt_act.proofs.Stepping.{moves_pins}
use Rattle.gt_act.proofs.Causes.{sure_cause}
use Rattle.gt_part.proofs.Calling.{called, not_called, same_called}
use Rattle.gt_part.proofs.partition.Partition.get_ref.Goals as goal

pub returns-in_default-clause-called : goal.returns-in_default-clause-called
returns-in_default-clause-called g c = same_called _ _ _ _ _ _ _ c.requires refl

pub returns-in-Err-clause-called : goal.returns-in-Err-clause-called
returns-in-Err-clause-called g c = rw (← c.self.view_is) (not_called _ _ _ _ _ _ _ _ _ c.take_room.ensures.opening c.take_room.ensures.same (ap (λ (pins : List Pin). is_live pins c.args.pin.now) (ap (λ (s : Shown _). s.live) c.self.view_is) ∙ c.requires) refl)

pub returns-clause-called : goal.returns-clause-called
returns-clause-called g c = rw (← c.self.view_is) (
    let e = c.get_ref-ended.ensures in
    let asked : GetRef c.number.result c.in-Ok.copy ≡ GetRef c.args.pin.now c.args.name.now = cc (c.number.ensures, c.in-Ok.ensures.cases) in
    called _ _ _ _ _ _ _ _ _ _ _ _ _ _ asked (c.note.ensures.answer ∙ c.of.ensures.answer) c.of.ensures.kept c.tick-tick.ensures refl refl (c.note.ensures.opening ∙ c.take_room.ensures.opening) c.take_room.ensures.same c.note.ensures.turns tt e.step (sure_cause _ _ e.sure) (omega arith) (λ told. moves_pins _ c.self.inside.state.journal c.self.inside.state.journal _ _ _ refl) refl)
