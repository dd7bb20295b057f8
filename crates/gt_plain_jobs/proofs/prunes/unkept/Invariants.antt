use Rattle.std.proofs.Common.{◌≡◌, ◌++◌, drop, filter, not}
use Rattle.gt_plain_jobs.specs.Marking.{is_kept}
use Rattle.gt_plain_jobs.proofs.prunes.unkept.Given as goal

-- what was found, and what is left to look through
abbrev pub invariant-loop-name : goal.invariant-loop-name
invariant-loop-name l = l.unkept.items ++ filter (λ name. not (is_kept l.pairs name)) (drop l.name-index l.names) ≡ filter (λ name. not (is_kept l.pairs name)) l.names
