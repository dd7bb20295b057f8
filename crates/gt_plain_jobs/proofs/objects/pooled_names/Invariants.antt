use Rattle.std.proofs.Common.{◌≡◌, ◌++◌, drop, filter, map}
use Rattle.gt_model.specs.Jobs.{is_pooled}
use Rattle.gt_plain_jobs.proofs.objects.pooled_names.Given as goal

-- what was found, and what is left to look through
abbrev pub invariant-loop-object : goal.invariant-loop-object
invariant-loop-object l = l.names.items ++ map (λ o. o.0) (filter (is_pooled l.content l.path) (drop l.object-index l.objects)) ≡ map (λ o. o.0) (filter (is_pooled l.content l.path) l.objects)
