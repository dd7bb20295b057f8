use Rattle.std.proofs.Common.{refl}
use Rattle.gt_prog.specs.Lines.{Line}
use Rattle.gt_prog.proofs.Acting.{acts_asked}
use Rattle.gt_prog.proofs.Asking.{asked_limits, asked_later, asked_fault}
use Rattle.gt_prog.proofs.PlaySteps.{goes_asked}
use Rattle.gt_prog.proofs.doing.ask.Goals as goal

pub returns-clause-did : goal.returns-clause-did
returns-clause-did g c =
    let line : Line = record { number = c.args.line; request = c.args.request.now; answer = c.request.result } in
    goes_asked g.D.Disk.tells g.D.Disk.view c.args.local.now.limits g.D.Disk.fault_count g.D.Disk.call_count line c.args.sessions.now c.request.new.self c.args.local.now c.request.new.parts refl c.requires.course c.request.ensures.does

pub returns-clause-limits : goal.returns-clause-limits
returns-clause-limits g c = asked_limits g.D.Disk.tells g.D.Disk.view g.D.Disk.fault_count g.D.Disk.call_count _ _ _ _ _ _ _ _ c.request.ensures.does

pub returns-clause-later : goal.returns-clause-later
returns-clause-later g c = asked_later g.D.Disk.tells g.D.Disk.view g.D.Disk.fault_count g.D.Disk.call_count _ _ _ _ _ _ _ _ c.request.ensures.does

pub returns-clause-fault : goal.returns-clause-fault
returns-clause-fault g c = asked_fault g.D.Disk.tells g.D.Disk.view g.D.Disk.fault_count g.D.Disk.call_count _ _ _ _ _ _ _ _ c.request.ensures.does

pub returns-clause-acted : goal.returns-clause-acted
returns-clause-acted g c =
    let line : Line = record { number = c.args.line; request = c.args.request.now; answer = c.request.result } in
    acts_asked g.D.Disk.tells g.D.Disk.view g.D.Disk.fault_count g.D.Disk.call_count line c.args.sessions.now c.request.new.self c.args.local.now c.request.new.parts c.requires.course c.request.ensures.does
