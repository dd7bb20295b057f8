use Rattle.std.proofs.Common.{◌≡◌, ◌∷◌, ◌++◌, drop, filter, nat_le}
use Rattle.gt_apply.proofs.rearranging.packs_from.Given as goal

-- what was kept, and what is left to look through
abbrev pub invariant-loop-number : goal.invariant-loop-number
invariant-loop-number l = l.kept ++ filter (λ n. nat_le l.file n) (drop l.number-index l.packs) ≡ l.file ∷ filter (λ n. nat_le l.file n) l.packs
