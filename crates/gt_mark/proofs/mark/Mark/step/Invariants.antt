use Rattle.std.proofs.Common.{◌≡◌, ◌+◌, List, None, IsTrue}
use Rattle.std.specs.List.{AllWithin}
use Rattle.gt_mark.specs.Reach.{Pair}
use Rattle.gt_mark.specs.Marking.{IsUnderway, IsMentioned, Extends, Finds}
use Rattle.gt_mark.proofs.mark.Mark.step.Given as goal

-- As many pairs were looked up as turns were taken, and no fault came.
abbrev pub invariant-turns : goal.invariant-turns
invariant-turns g l = record {
  turns : l.self.looked ≡ l.fn.self.looked + l.counter;
  grows : Extends l.fn.self.pairs l.self.pairs;
  faults : g.R.Reads.fault_count l.reader ≡ g.R.Reads.fault_count l.fn.reader;
  mentions : IsTrue g.R.Reads.tells → g.R.Reads.mentions l.reader ≡ g.R.Reads.mentions l.fn.reader;
  bad : IsTrue g.R.Reads.tells → g.R.Reads.bad l.reader ≡ g.R.Reads.bad l.fn.reader;
  underway : IsTrue g.R.Reads.tells → (roots : List Pair) → IsUnderway roots (g.R.Reads.mentions l.fn.reader) l.fn.self → IsUnderway roots (g.R.Reads.mentions l.fn.reader) l.self;
  only : IsTrue g.R.Reads.tells → Finds (IsMentioned (g.R.Reads.mentions l.fn.reader) l.self.pairs l.fn.self.looked l.self.looked) l.fn.self.pairs l.self.pairs;
  good : IsTrue g.R.Reads.tells → AllWithin (λ p. g.R.Reads.bad l.fn.reader p.0 p.1 ≡ None) l.self.pairs l.fn.self.looked l.self.looked;
}
