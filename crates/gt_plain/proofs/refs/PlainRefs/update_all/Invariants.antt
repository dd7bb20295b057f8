use Rattle.std.proofs.Common.{◌≡◌, drop}
use Rattle.gt_model.specs.Contents.{with_refs}
use Rattle.gt_plain.proofs.refs.PlainRefs.update_all.Given as goal

-- what is left leads to the same
abbrev pub invariant-loop-update : goal.invariant-loop-update
invariant-loop-update l = with_refs l.self (drop l.update-index l.updates) ≡ with_refs l.initial.self l.updates
