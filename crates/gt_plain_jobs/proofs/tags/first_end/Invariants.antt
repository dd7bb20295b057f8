use Rattle.std.proofs.Common.{◌≡◌, ◌&&◌, drop, find, is_some, is_none}
use Rattle.gt_model.specs.Contents.{found}
use Rattle.gt_model.specs.Jobs.{next_of}
use Rattle.gt_plain_jobs.proofs.tags.first_end.Given as goal

-- what is left answers as all do
abbrev pub invariant-loop-name : goal.invariant-loop-name
invariant-loop-name l =
    find (λ n. is_some (found l.content l.path n) && is_none (next_of l.content l.path n)) (drop l.name-index l.names) ≡ find (λ n. is_some (found l.content l.path n) && is_none (next_of l.content l.path n)) l.names
