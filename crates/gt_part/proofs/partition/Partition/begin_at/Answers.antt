use Rattle.std.proofs.Common.{refl, ◌∙◌, arith}
use Rattle.gt_part.proofs.Calling.{called, not_called}
use Rattle.gt_part.proofs.partition.Partition.begin_at.Goals as goal

pub returns-in-Err-clause-called : goal.returns-in-Err-clause-called
returns-in-Err-clause-called g c = rw (← c.self.view_is) (not_called _ _ _ _ _ _ _ _ _ c.take_room.ensures.opening c.take_room.ensures.same refl refl)

pub returns-clause-called : goal.returns-clause-called
returns-clause-called g c = rw (← c.self.view_is) (
    let e = c.begin-ended.ensures in
    called _ _ _ _ _ _ _ _ _ _ _ _ _ _ refl (c.note-answer.ensures.answer ∙ c.of.ensures.answer) c.of.ensures.kept c.tick-tick.ensures refl refl (c.note-answer.ensures.opening ∙ c.take_room.ensures.opening) c.take_room.ensures.same c.note-answer.ensures.turns tt e.step e.cause (omega (arith, e.counted)) e.moves e.known)
