use Rattle.std.proofs.Common.{◌≡◌, take}
use Rattle.std.specs.List.{All, IsAmong}
use Rattle.gt_mark.specs.Marking.{Finds, IsNamed}
use Rattle.gt_mark.proofs.marked.Marked.add_names.Given as goal

abbrev pub invariant-loop-name : goal.invariant-loop-name
invariant-loop-name l = record {
  path : l.pair.0 ≡ l.fn.path;
  finds : Finds (IsNamed l.fn.path l.names) l.fn.self l.self;
  there : All (λ name. IsAmong l.self (l.fn.path, name)) (take l.name-index l.names);
}
