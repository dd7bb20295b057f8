use Rattle.std.proofs.Common.{◌≤◌, sym, subst}
use Rattle.gt_part.specs.Shown.{Shown}
use Rattle.gt_session.specs.Together.{GiveUp}
use Rattle.gt_prog.specs.One.{LocalDid}
use Rattle.gt_prog.proofs.Asking.{ended_later}
use Rattle.gt_prog.proofs.playing.finish.Goals as goal

pub returns-clause-ends : goal.returns-clause-ends
returns-clause-ends g c =
    let P : Shown _ → Type 0 = λ p. GiveUp (LocalDid g.D.Disk.tells g.D.Disk.view g.D.Disk.fault_count g.D.Disk.call_count) c.args.sessions c.args.local p in
    subst P (sym c.local.view_is) c.end_all.ensures.ends

pub returns-clause-later : goal.returns-clause-later
returns-clause-later g c =
    let P : Shown _ → Type 0 = λ p. g.D.Disk.fault_count c.args.local.disk ≤ g.D.Disk.fault_count p.disk in
    subst P (sym c.local.view_is) (ended_later g.D.Disk.tells g.D.Disk.view g.D.Disk.fault_count g.D.Disk.call_count c.args.sessions c.args.local c.end_all.new.parts c.end_all.ensures.ends)
