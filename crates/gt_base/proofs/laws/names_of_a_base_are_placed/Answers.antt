use Rattle.gt_base.proofs.Contents.{base_placed}
use Rattle.gt_base.proofs.laws.names_of_a_base_are_placed.Goals as goal

pub returns : goal.returns
returns c repos = base_placed repos
