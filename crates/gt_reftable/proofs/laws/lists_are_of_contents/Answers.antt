use Rattle.gt_reftable.proofs.AllLaws.{all_agree}
use Rattle.gt_reftable.proofs.laws.lists_are_of_contents.Goals as goal

pub returns : goal.returns
returns c = all_agree
