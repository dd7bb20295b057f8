use Rattle.std.proofs.Common.{◌≡◌}
use Rattle.gt_session.specs.Together.{AreHeld}
use Rattle.gt_session.proofs.TogetherLaws.{forgotten_to, GaveUpTo}
use Rattle.gt_session.proofs.together.end_each.Given as goal

abbrev pub invariant-loop-i : goal.invariant-loop-i
invariant-loop-i g l = record {
  forgotten : l.all.items ≡ forgotten_to l.i l.fn.all.items;
  held : AreHeld l.all.items (g.P.Parts.live l.parts);
  ends : GaveUpTo g.P.Parts.did l.fn.parts l.fn.all.items l.i l.parts;
}
