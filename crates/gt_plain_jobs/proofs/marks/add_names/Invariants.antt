use Rattle.std.proofs.Common.{◌≡◌, drop}
use Rattle.gt_plain_jobs.specs.Marking.{with_names}
use Rattle.gt_plain_jobs.proofs.marks.add_names.Given as goal

-- what is left leads to all
abbrev pub invariant-loop-name : goal.invariant-loop-name
invariant-loop-name l = with_names l.at l.pairs.items (drop l.name-index l.names) ≡ with_names l.at l.initial.pairs.items l.names
