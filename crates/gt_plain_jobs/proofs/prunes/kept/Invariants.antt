use Rattle.std.proofs.Common.{◌≡◌, ◌++◌, drop, filter}
use Rattle.gt_plain_jobs.specs.Marking.{is_kept}
use Rattle.gt_plain_jobs.proofs.prunes.kept.Given as goal

-- what was found, and what is left to look through
abbrev pub invariant-loop-name : goal.invariant-loop-name
invariant-loop-name l = l.kept.items ++ filter (is_kept l.pairs) (drop l.name-index l.names) ≡ filter (is_kept l.pairs) l.names
