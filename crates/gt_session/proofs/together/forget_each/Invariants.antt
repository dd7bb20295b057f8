use Rattle.std.proofs.Common.{◌≡◌}
use Rattle.gt_session.proofs.TogetherLaws.{forgotten_to}
use Rattle.gt_session.proofs.together.forget_each.Given as goal

abbrev pub invariant-loop-i : goal.invariant-loop-i
invariant-loop-i g l = l.all.items ≡ forgotten_to l.i l.fn.all.items
