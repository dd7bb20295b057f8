use Rattle.gt_base.proofs.Packed.{based_there}
use Rattle.gt_base.proofs.laws.records_of_a_base_stand_in_its_packs.Goals as goal

pub returns : goal.returns
returns c states repos path name whole place held has here = based_there states repos path name whole place held has here
