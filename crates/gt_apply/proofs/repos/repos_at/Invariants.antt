use Rattle.std.proofs.Common.{◌≡◌, ◌++◌, [], drop, filter, map}
use Rattle.gt_model.specs.Batches.{cut}
use Rattle.gt_model.specs.Verdicts.{same_name}
use Rattle.gt_apply.specs.Steps.{seen}
use Rattle.gt_apply.proofs.repos.repos_at.Given as goal

-- what was cut, and what is left to cut
abbrev pub invariant-loop-entry : goal.invariant-loop-entry
invariant-loop-entry l = map seen l.repos.items ++ cut (seen l.own) (filter (λ e. same_name e.path l.path) (drop l.entry-index l.entries)) ≡ cut [] (filter (λ e. same_name e.path l.path) l.entries)
