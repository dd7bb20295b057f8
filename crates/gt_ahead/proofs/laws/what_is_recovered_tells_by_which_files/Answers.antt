use Rattle.gt_ahead.proofs.Asked.{asks_based, loaded_by}
use Rattle.gt_ahead.proofs.laws.what_is_recovered_tells_by_which_files.Goals as goal

pub returns-clause-base : goal.returns-clause-base
returns-clause-base c files b is = asks_based files b.manifest b is

pub returns-clause-whole : goal.returns-clause-whole
returns-clause-whole c = loaded_by
