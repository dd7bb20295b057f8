use Rattle.gt_applied.proofs.Few.{few_new_files}
use Rattle.gt_applied.proofs.laws.few_entries_add_few_files.Goals as goal

pub returns : goal.returns
returns c = few_new_files
