use Rattle.std.proofs.Common.{take}
use Rattle.std.specs.List.{All, IsAmong}
use Rattle.gt_mark.specs.Marking.{Finds}
use Rattle.gt_mark.proofs.marked.Marked.add_all.Given as goal

abbrev pub invariant-loop-pair : goal.invariant-loop-pair
invariant-loop-pair l = record {
  finds : Finds (IsAmong l.pairs) l.fn.self l.self;
  there : All (IsAmong l.self) (take l.pair-index l.pairs);
}
