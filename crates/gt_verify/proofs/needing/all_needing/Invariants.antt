use Rattle.std.proofs.Common.{◌≡◌, take}
use Rattle.gt_verify.specs.Checks.{all_needing}
use Rattle.gt_verify.proofs.needing.all_needing.Given as goal

abbrev pub invariant-loop-name : goal.invariant-loop-name
invariant-loop-name l = l.list ≡ all_needing l.stage.staged.records (take l.name-index l.names)
