use Rattle.std.proofs.Common.{◌≡◌, drop, fold}
use Rattle.gt_apply.specs.Plan.{entered}
use Rattle.gt_apply.specs.Steps.{seen}
use Rattle.gt_apply.proofs.entering.enter_all.Given as goal

-- what is left leads to the same
abbrev pub invariant-loop-entry : goal.invariant-loop-entry
invariant-loop-entry l = fold entered l.shelves (seen (drop l.entry-index l.own)) ≡ fold entered l.initial.shelves (seen l.own)
