use Rattle.std.proofs.Common.{◌≡◌, ◌++◌, drop, filter, nat_le}
use Rattle.gt_apply.proofs.rearranging.loose_from.Given as goal

-- what was kept, and what is left to look through
abbrev pub invariant-loop-loose : goal.invariant-loop-loose
invariant-loop-loose l = l.kept ++ filter (λ x. nat_le l.file x.file) (drop l.loose-index l.list) ≡ filter (λ x. nat_le l.file x.file) l.list
