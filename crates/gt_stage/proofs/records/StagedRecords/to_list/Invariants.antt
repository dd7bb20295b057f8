use Rattle.std.proofs.Common.{◌≡◌, take}
use Rattle.gt_stage.proofs.records.StagedRecords.to_list.Given as goal

abbrev pub invariant-loop-i : goal.invariant-loop-i
invariant-loop-i l = l.list ≡ take l.i l.self
