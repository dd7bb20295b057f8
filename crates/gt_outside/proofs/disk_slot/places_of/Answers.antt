use Rattle.std.proofs.Common.{arith}
use Rattle.gt_outside.proofs.PlacesLemmas.{one_more_here}
use Rattle.gt_outside.proofs.disk_slot.places_of.Goals as goal

pub loop-disk-preserved : goal.loop-disk-preserved
loop-disk-preserved c = grind (arith, one_more_here)
