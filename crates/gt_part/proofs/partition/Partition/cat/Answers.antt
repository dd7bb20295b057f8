use Rattle.std.proofs.Common.{◌≡◌, List, refl, ap, ◌∙◌, arith}
use Rattle.gt_model.specs.declared.event.Event.TheVariants.{Cat}
use Rattle.gt_model.specs.Machine.{Pin, is_live}
use Rattle.gt_journal.proofs.Turns.{remembers_kept}
use Rattle.gt_part.specs.Shown.{Shown, memory}
use Rattle.gt_part.proofs.Calling.{read_called, not_called}
use Rattle.gt_part.proofs.Histories.{run_stored, run_sound, run_few}
use Rattle.gt_part.proofs.Objects.{cat_steps}
use Rattle.gt_act.proofs.Stepping.{moves_quiet}
use Rattle.gt_part.proofs.partition.Partition.cat.Goals as goal

pub returns-in-Err-clause-called : goal.returns-in-Err-clause-called
returns-in-Err-clause-called g c = rw (← c.self.view_is) (not_called _ _ _ _ _ _ _ _ _ c.take_room.ensures.opening c.take_room.ensures.same (ap (λ (pins : List Pin). is_live pins c.args.pin.now) (ap (λ (s : Shown _). s.live) c.self.view_is) ∙ c.requires) refl)

pub returns-clause-called : goal.returns-clause-called
returns-clause-called g c = rw (← c.self.view_is) (
    let e = c.cat-reply.ensures in
    let p : Shown _ = record { number = c.self.inside.number; disk = c.self.inside.disk; limits = c.self.inside.limits; ledger = c.self.inside.state.journal; live = c.self.inside.state.live; opening = c.self.inside.trail.opening; trail = c.self.inside.trail.turns.0 } in
    let v = g.D.Disk.view c.self.inside.disk in
    let w = g.D.Disk.view c.cat-reply.new.disk in
    let asked : Cat c.number.result c.args.name.now ≡ Cat c.args.pin.now c.args.name.now = ap (λ n. Cat n c.args.name.now) c.number.ensures in
    read_called _ _ _ _ _ _ _ _ _ _ _ _ _ _ _ asked c.note.ensures.answer e.kept c.tick-tick.ensures refl refl (c.note.ensures.opening ∙ c.take_room.ensures.opening) c.take_room.ensures.same c.note.ensures.turns tt e.happens.step e.happens.same e.happens.like (λ no. absurd (cc (no))) e.cause (λ few. omega (arith, e.counted)) (λ told stored r. (moves_quiet p.limits (memory p) v w (e.quiet told)).0) (λ told stored r. remembers_kept p.ledger p.ledger v w refl ((moves_quiet p.limits (memory p) v w (e.quiet told)).1 stored) r)
    (λ told start begin history run.
    cat_steps p.limits _ _ _ _ v (run_stored g.D.Disk.view start begin history p run) run.2.packs (run_sound g.D.Disk.view start begin history p run) (g.met.D.Disk.shows c.self.inside.disk told) (run_few g.D.Disk.view start begin history p run (omega arith)) e.whole _ _ e.happens.step e.happens.same e.happens.named (e.gives told)))
