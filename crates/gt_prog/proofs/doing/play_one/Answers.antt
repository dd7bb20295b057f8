use Rattle.std.proofs.Common.{ℕ, ◌∷◌, [], List, IsTrue, Ok, refl, subst}
use Rattle.gt_model.specs.declared.done.Done.TheVariants.{Restarted}
use Rattle.gt_model.specs.Histories.{Happening}
use Rattle.gt_model.specs.Machine.{State}
use Rattle.gt_journal.specs.Histories.{Holds}
use Rattle.gt_part.specs.Shown.{Shown, HasRun}
use Rattle.gt_prog.specs.Lines.{Line}
use Rattle.gt_prog.specs.Played.{Goes}
use Rattle.gt_prog.specs.AnyDisk.{ActedOne}
use Rattle.gt_prog.proofs.Acting.{acts_restarted}
use Rattle.gt_prog.proofs.PlaySteps.{goes_restarted}
use Rattle.gt_prog.proofs.doing.play_one.Goals as goal

pub returns-in-Ok-clause-did : goal.returns-in-Ok-clause-did
returns-in-Ok-clause-did g c =
    let line : Line = record { number = c.args.line; request = c.args.request.now; answer = Ok Restarted } in
    let P : Shown _ → Type 0 = λ p. Goes g.D.Disk.tells g.D.Disk.view p.limits (line ∷ []) c.args.sessions.now c.forget_all.new.self p c.in-Ok.partition in
    subst P c.local.view_is
    (goes_restarted g.D.Disk.tells g.D.Disk.view c.local.inside.partition.limits g.D.Disk.fault_count line c.args.sessions.now c.forget_all.new.self c.local.inside.partition c.in-Ok.partition c.in-Restart.is refl c.forget_all.ensures c.in-Ok.ensures.settles c.in-Ok.ensures.run)

pub returns-in-Err-clause-in_vain : goal.returns-in-Err-clause-in_vain
returns-in-Err-clause-in_vain g c =
    let P : Shown _ → Type 0 = λ p. IsTrue g.D.Disk.tells → (start : State) (begin : ℕ) (history : List Happening) → HasRun g.D.Disk.view start begin history p → Holds p.limits start begin history (g.D.Disk.view c.in-Err.error.disk) in
    subst P c.local.view_is c.in-Err.ensures.in_vain

pub returns-in-Ok-clause-acted : goal.returns-in-Ok-clause-acted
returns-in-Ok-clause-acted g c =
    let line : Line = record { number = c.args.line; request = c.args.request.now; answer = Ok Restarted } in
    let P : Shown _ → Type 0 = λ p. ActedOne c.args.line c.args.request.now (Ok Restarted) c.args.sessions.now c.forget_all.new.self p c.in-Ok.partition in
    subst P c.local.view_is
    (acts_restarted line c.args.sessions.now c.forget_all.new.self c.local.inside.partition c.in-Ok.partition _ c.in-Restart.is refl c.forget_all.ensures c.in-Ok.ensures.kept.1 c.in-Ok.ensures.opened)
