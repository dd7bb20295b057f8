use Rattle.std.proofs.Common.{◌≡◌, drop}
use Rattle.gt_plain_jobs.specs.Marking.{with_roots}
use Rattle.gt_plain_jobs.proofs.marks.add_roots.Given as goal

-- what is left leads to all
abbrev pub invariant-loop-at : goal.invariant-loop-at
invariant-loop-at l = with_roots l.content l.path l.pairs.items (drop l.at-index l.paths) ≡ with_roots l.content l.path l.initial.pairs.items l.paths
