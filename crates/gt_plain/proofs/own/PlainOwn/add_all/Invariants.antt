use Rattle.std.proofs.Common.{◌≡◌, drop}
use Rattle.gt_model.specs.Contents.{with_added}
use Rattle.gt_plain.proofs.own.PlainOwn.add_all.Given as goal

-- what is left leads to the same
abbrev pub invariant-loop-record : goal.invariant-loop-record
invariant-loop-record l = with_added l.self (drop l.record-index l.records) ≡ with_added l.initial.self l.records
