use Rattle.std.proofs.Common.{◌≡◌, ◌++◌, drop, filter, is_some}
use Rattle.gt_model.specs.Jobs.{next_of}
use Rattle.gt_plain_jobs.proofs.tags.tags.Given as goal

-- what was found, and what is left to look through
abbrev pub invariant-loop-name : goal.invariant-loop-name
invariant-loop-name l = l.tags.items ++ filter (λ n. is_some (next_of l.content l.path n)) (drop l.name-index l.names) ≡ filter (λ n. is_some (next_of l.content l.path n)) l.names
