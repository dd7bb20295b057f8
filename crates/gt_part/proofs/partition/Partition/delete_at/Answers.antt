use Rattle.std.proofs.Common.{refl, ◌∙◌}
use Rattle.gt_part.proofs.Calling.{called, not_called}
use Rattle.gt_part.proofs.partition.Partition.delete_at.Goals as goal

pub returns-in-Err-clause-called : goal.returns-in-Err-clause-called
returns-in-Err-clause-called g c = rw (← c.self.view_is) (not_called _ _ _ _ _ _ _ _ _ c.take_room.ensures.opening c.take_room.ensures.same refl refl)

pub returns-clause-called : goal.returns-clause-called
returns-clause-called g c = rw (← c.self.view_is) (
    let e = c.delete-reply.ensures in
    called _ _ _ _ _ _ _ _ _ _ _ _ _ _ refl c.note.ensures.answer e.kept c.tick-tick.ensures refl refl (c.note.ensures.opening ∙ c.take_room.ensures.opening) c.take_room.ensures.same c.note.ensures.turns tt e.step e.cause e.counted e.moves e.known)
