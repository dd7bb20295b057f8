use Rattle.std.proofs.Common.{◌≡◌, ◌-◌}
use Rattle.gt_session.specs.Together.{sessions_from}
use Rattle.gt_session.proofs.together.new_sessions.Given as goal

abbrev pub invariant-loop-number : goal.invariant-loop-number
invariant-loop-number g l = l.all.items ≡ sessions_from 1 (l.number - 1)
