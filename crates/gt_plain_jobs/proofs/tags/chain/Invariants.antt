use Rattle.std.proofs.Common.{◌≡◌, ◌++◌, ◌-◌}
use Rattle.gt_model.specs.Jobs.{chain}
use Rattle.gt_plain_jobs.proofs.tags.chain.Given as goal

-- what was met, and what is left to meet
abbrev pub invariant-loop-at : goal.invariant-loop-at
invariant-loop-at l = l.names.items ++ chain l.content l.path (l.count - l._at) l.last ≡ chain l.content l.path l.count l.name
