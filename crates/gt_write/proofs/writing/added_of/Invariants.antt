use Rattle.std.proofs.Common.{◌≡◌, take}
use Rattle.gt_write.specs.Writing.{records_of}
use Rattle.gt_write.proofs.writing.added_of.Given as goal

abbrev pub invariant-loop-name : goal.invariant-loop-name
invariant-loop-name l = l.list ≡ records_of l.stage.staged (take l.name-index l.name-items)
