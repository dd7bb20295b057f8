use Rattle.std.proofs.Common.{arith}
use Rattle.gt_session.proofs.TogetherLaws.{no_sessions, sessions_more}
use Rattle.gt_session.proofs.together.new_sessions.Goals as goal

pub loop-number-init : goal.loop-number-init
loop-number-init g c = no_sessions c.new-all.result.items c.new-all.ensures.items

pub loop-number-preserved : goal.loop-number-preserved
loop-number-preserved g c =
    sessions_more c.loop-number.all.items c.push.new.self.items c.new.result c.loop-number.number (omega arith) c.loop-number.invariant c.new.ensures c.in_default.ensures.items
