use Rattle.gt_reftable.proofs.AgreeLaws.{refs_in-value}
use Rattle.gt_reftable.proofs.laws.references_are_values.Goals as goal

pub returns : goal.returns
returns c = refs_in-value
