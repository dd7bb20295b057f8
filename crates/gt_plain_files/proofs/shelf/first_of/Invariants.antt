use Rattle.std.proofs.Common.{◌≡◌, ◌∷◌, ◌++◌, drop, filter, nat_le}
use Rattle.gt_plain_files.proofs.shelf.first_of.Given as goal

-- what was kept, and what is left to look through
abbrev pub invariant-loop-number : goal.invariant-loop-number
invariant-loop-number l = l.kept.items ++ filter (λ n. nat_le l.least n) (drop l.number-index l.packs) ≡ l.file ∷ filter (λ n. nat_le l.least n) l.packs
