use Rattle.gt_plain_jobs.proofs.Gathered.{IsGathered}
use Rattle.gt_plain_jobs.proofs.marks.marked.Given as goal

-- the pairs before the index were followed
abbrev pub invariant-loop-index : goal.invariant-loop-index
invariant-loop-index l = IsGathered l.content l.path l.index l.pairs.items
