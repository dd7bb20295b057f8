use Rattle.std.proofs.Common.{◌≡◌, ◌++◌, drop, filter, is_some, map}
use Rattle.gt_plain_jobs.proofs.batches.moved.Given as goal

-- what was found, and what is left to look through
abbrev pub invariant-loop-update : goal.invariant-loop-update
invariant-loop-update l = l.names.items ++ map (λ u. u.name) (filter (λ u. is_some u.new) (drop l.update-index l.refs)) ≡ map (λ u. u.name) (filter (λ u. is_some u.new) l.refs)
