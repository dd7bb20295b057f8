use Rattle.std.proofs.Common.{◌≡◌, ℕ, ◌<◌, take, get_or, false}
use Rattle.gt_verify.specs.Folders.{has_name}
use Rattle.gt_verify.proofs.sorted.SortedRefs.above.Given as goal

abbrev pub invariant-loop-at : goal.invariant-loop-at
invariant-loop-at l = (j : ℕ) → j < l.at → get_or l.text j 0 ≡ 47 → has_name l.self (take j l.text) ≡ false
