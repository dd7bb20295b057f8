use Rattle.std.proofs.Common.{◌≡◌, drop}
use Rattle.gt_model.specs.Contents.{without}
use Rattle.gt_plain.proofs.own.PlainOwn.remove_all.Given as goal

-- what is left leads to the same
abbrev pub invariant-loop-name : goal.invariant-loop-name
invariant-loop-name l = without l.self (drop l.name-index l.names) ≡ without l.initial.self l.names
