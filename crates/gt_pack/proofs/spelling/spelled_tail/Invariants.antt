use Rattle.std.proofs.Common.{◌≡◌, take}
use Rattle.std.specs.List.{flat_map}
use Rattle.gt_pack.specs.Spelling.{indexed}
use Rattle.gt_pack.proofs.spelling.spelled_tail.Given as goal

abbrev pub invariant-items : goal.invariant-items
invariant-items l = l.out.items ≡ flat_map indexed (take l.item-index l.items)
