use Rattle.std.proofs.Common.{◌+◌, Err, refl, ap, ◌∙◌, arith}
use Rattle.gt_part.specs.Shown.{Shown}
use Rattle.gt_prog.proofs.Built.{built_at, session_at}
use Rattle.gt_prog.proofs.PlaySteps.{played_none, played_more, part_written, part_closed}
use Rattle.gt_prog.proofs.playing.play_lines.Goals as goal

pub loop-request-init : goal.loop-request-init
loop-request-init g c = record {
  played = played_none g.D.Disk.tells g.D.Disk.view g.D.Disk.fault_count c.args.sessions.now c.args.local c.args.requests.now (g.K.Sink.written c.args.sink.now) c.requires.begin;
  held = c.requires.held;
  numbered = refl;
  sure = refl;
  later = omega arith;
  limits = refl;
  counts = omega arith;
}

pub play_one-requires : goal.play_one-requires
play_one-requires g c = record {
  built = built_at c.args.requests.now c.loop-request.request-index c.request-item.result c.loop-request-test.true c.request-item.is c.requires.built;
  session = session_at c.args.requests.now c.loop-request.request-index c.request-item.result c.loop-request-test.true c.request-item.is c.requires.sessions;
  held = c.loop-request.invariant.held;
}

pub returns-in-Err-clause-part : goal.returns-in-Err-clause-part
returns-in-Err-clause-part g c =
    part_closed g.D.Disk.tells g.D.Disk.view g.D.Disk.fault_count c.args.local c.args.requests.now c.loop-request.request-index c.request-item.result c.loop-request-test.true c.request-item.is (c.loop-request.line + 1) (omega (arith, c.loop-request.invariant.numbered)) c.in-Err.ensures.only
    c.not_reopened.result.cause c.not_reopened.ensures.write c.loop-request.sessions c.loop-request.local _ _ c.not_reopened.result.disk c.in-Err.error.disk c.not_reopened.ensures.disk c.loop-request.invariant.played c.in-Err.ensures.cause.later
    (λ is. c.in-Err.ensures.cause.failed (c.not_reopened.ensures.device is)) c.in-Err.ensures.past c.in-Err.ensures.in_vain

pub returns-in-Err-write_answer-clause-part : goal.returns-in-Err-write_answer-clause-part
returns-in-Err-write_answer-clause-part g c =
    part_written g.D.Disk.tells g.D.Disk.view g.D.Disk.fault_count c.args.local c.args.requests.now c.loop-request.request-index c.request-item.result c.loop-request-test.true c.request-item.is (c.loop-request.line + 1) (omega (arith, c.loop-request.invariant.numbered)) c.loop-request.sessions c.play_one.new.sessions
    c.loop-request.local c.in-Ok.next c.loop-request.invariant.limits c.in-Ok.answer _ _ _ c.loop-request.invariant.played c.in-Ok.ensures.did c.in-Ok.ensures.later c.in-Ok.ensures.fault c.in-Ok.ensures.acted c.in-Err-write_answer.cause
    c.unmount.result (λ is. c.in-Err-write_answer.ensures.device (ap Err is)) (λ file at is. c.in-Err-write_answer.ensures.sound file at (ap Err is)) (λ is. c.in-Err-write_answer.ensures.memory (ap Err is)) (c.unmount.ensures ∙ ap (λ (p : Shown _). p.disk) c.local.view_is) c.in-Err-write_answer.ensures.front

pub loop-request-preserved : goal.loop-request-preserved
loop-request-preserved g c = record {
  played = played_more g.D.Disk.tells g.D.Disk.view g.D.Disk.fault_count c.args.local c.args.requests.now c.loop-request.request-index c.request-item.result c.loop-request-test.true c.request-item.is (c.loop-request.line + 1) (omega (arith, c.loop-request.invariant.numbered)) c.loop-request.sessions
      c.play_one.new.sessions c.loop-request.local c.in-Ok.next c.loop-request.invariant.limits c.in-Ok.answer _ _ _ c.loop-request.invariant.played c.in-Ok.ensures.did c.in-Ok.ensures.later c.in-Ok.ensures.fault c.in-Ok.ensures.acted c.in_default.ensures.whole;
  held = c.in-Ok.ensures.held;
  numbered = omega (arith, c.loop-request.invariant.numbered);
  sure = c.in_default.ensures.sure (λ is. absurd (cc is)) ∙ c.loop-request.invariant.sure;
  later = omega (arith, c.loop-request.invariant.later, c.write_answer.ensures.later);
  limits = c.in-Ok.ensures.limits ∙ c.loop-request.invariant.limits;
  counts = omega (arith, c.loop-request.invariant.counts, c.in-Ok.ensures.later);
}
