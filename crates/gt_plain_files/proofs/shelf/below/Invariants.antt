use Rattle.std.proofs.Common.{◌≡◌, ◌++◌, drop, filter, nat_lt}
use Rattle.gt_plain_files.proofs.shelf.below.Given as goal

-- what was found, and what is left to look through
abbrev pub invariant-loop-number : goal.invariant-loop-number
invariant-loop-number l = l.out.items ++ filter (λ n. nat_lt n l.file) (drop l.number-index l.packs) ≡ filter (λ n. nat_lt n l.file) l.packs
