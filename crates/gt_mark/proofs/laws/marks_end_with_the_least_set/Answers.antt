use Rattle.gt_mark.proofs.Going.{ends}
use Rattle.gt_mark.proofs.laws.marks_end_with_the_least_set.Goals as goal

pub returns : goal.returns
returns c roots mentions f u once all = ends roots mentions f u all once
