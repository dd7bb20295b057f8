use Rattle.std.proofs.Common.{◌≡◌, ◌+◌, drop, sum_by}
use Rattle.gt_model.specs.Jobs.{tag_count}
use Rattle.gt_plain_jobs.proofs.units.units_of.Given as goal

-- what was counted, and what is left to count
abbrev pub invariant-loop-item : goal.invariant-loop-item
invariant-loop-item l = l.units + sum_by (λ r. 1 + tag_count l.content l.path r.1) (drop l.item-index l.refs) ≡ sum_by (λ r. 1 + tag_count l.content l.path r.1) l.refs
