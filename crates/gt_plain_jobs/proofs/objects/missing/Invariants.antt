use Rattle.std.proofs.Common.{◌≡◌, ◌++◌, drop, filter, is_none}
use Rattle.gt_model.specs.Contents.{own}
use Rattle.gt_plain_jobs.proofs.objects.missing.Given as goal

-- what was found, and what is left to look through
abbrev pub invariant-loop-object : goal.invariant-loop-object
invariant-loop-object l = l.missing.items ++ filter (λ o. is_none (own l.content l.path o.0)) (drop l.object-index l.objects) ≡ filter (λ o. is_none (own l.content l.path o.0)) l.objects
