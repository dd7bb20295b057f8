use Rattle.std.proofs.Common.{subst}
use Rattle.std.specs.List.{IsDistinct}
use Rattle.gt_model.specs.Jobs.{same_pair}
use Rattle.gt_mark.proofs.Pairs.{once}
use Rattle.gt_mark.proofs.marked.Marked.len.Goals as goal

pub returns-clause-once : goal.returns-clause-once
returns-clause-once c = once c.args.self.now (subst (IsDistinct same_pair) c.self.view_is c.len.ensures.unique)
