use Rattle.std.proofs.Common.{refl}
use Rattle.gt_part.proofs.Calling.{same_called}
use Rattle.gt_part.proofs.partition.Partition.create.Goals as goal

pub returns-in_default-clause-called : goal.returns-in_default-clause-called
returns-in_default-clause-called g c = same_called _ _ _ _ _ _ _ refl refl
