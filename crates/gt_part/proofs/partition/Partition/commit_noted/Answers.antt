use Rattle.std.proofs.Common.{◌≡◌, refl, ap, ◌∙◌}
use Rattle.gt_model.specs.declared.event.Event.TheVariants.{Commit}
use Rattle.gt_model.specs.Machine.{is_live}
use Rattle.gt_part.specs.Shown.{Shown}
use Rattle.gt_part.proofs.Calling.{called, not_called}
use Rattle.gt_part.proofs.partition.Partition.commit_noted.Goals as goal

pub returns-in-Err : goal.returns-in-Err
returns-in-Err g c = record { called = rw (← c.self.view_is) (not_called _ _ _ _ _ _ _ _ _ c.take_room.ensures.opening c.take_room.ensures.same (c.are_transactions.ensures c.args.pin.now ∙ ap (λ (p : Shown _). is_live p.live c.args.pin.now) c.self.view_is ∙ c.requires.live) refl) }

pub returns : goal.returns
returns g c = record {
  called = rw (← c.self.view_is) (
      let e = c.commit-reply.ensures in
      let asked : Commit c.number.result c.args.refs c.args.records ≡ Commit c.args.pin.now c.args.stage.now.staged.refs c.args.stage.now.staged.records = cc (c.number.ensures, c.requires.refs, c.requires.records) in
      called _ _ _ _ _ _ _ _ _ _ _ _ _ _ asked c.note.ensures.answer e.kept c.tick-tick.ensures refl refl (c.note.ensures.opening ∙ c.take_room.ensures.opening) c.take_room.ensures.same c.note.ensures.turns c.law_stage.ensures.named e.step e.cause e.counted e.moves e.known);
}
