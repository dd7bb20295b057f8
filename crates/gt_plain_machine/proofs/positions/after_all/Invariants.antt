use Rattle.std.proofs.Common.{◌≡◌, drop}
use Rattle.gt_model.specs.Contents.{after_all}
use Rattle.gt_plain_machine.proofs.positions.after_all.Given as goal

-- what is left leads to the same
abbrev pub invariant-loop-entry : goal.invariant-loop-entry
invariant-loop-entry l = after_all l.content (drop l.entry-index l.entries) ≡ after_all l.base l.entries
