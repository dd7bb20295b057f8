use Rattle.std.proofs.Common.{◌≡◌, take}
use Rattle.gt_model.specs.Verdicts.{ascending}
use Rattle.gt_verify.proofs.ascending.set_of.Given as goal

abbrev pub invariant-loop-name : goal.invariant-loop-name
invariant-loop-name l = l.set.keys ≡ ascending (take l.name-index l.names)
