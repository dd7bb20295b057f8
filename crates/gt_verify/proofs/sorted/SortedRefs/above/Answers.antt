use Rattle.std.proofs.Common.{ℕ, List, Some, None, subst}
use Rattle.gt_verify.proofs.SortedLaws.{over_name, above_none, above_here}
use Rattle.gt_verify.specs.Folders.{IsLeast}
use Rattle.gt_verify.proofs.sorted.SortedRefs.above.Goals as goal

pub returns-in-Some : goal.returns-in-Some
returns-in-Some c =
    subst (λ (name : List ℕ). IsLeast (over_name c.args.self.now name) (Some c.in-Some.found.now)) c.bytes-text.ensures.text
    (above_here c.args.self.now c.bytes-text.result.now c.loop-at.at c.in-Some.found.now c.loop-at-test.true c.loop-at.invariant c.in-Some.ensures)

pub returns : goal.returns
returns c =
    subst (λ (name : List ℕ). IsLeast (over_name c.args.self.now name) None) c.bytes-text.ensures.text
    (above_none c.args.self.now c.bytes-text.result.now c.loop-at.at c.loop-at-test.false c.loop-at.invariant)
