use Rattle.gt_ahead.proofs.Choices.{among_more}
use Rattle.gt_ahead.proofs.laws.what_loads_is_among_more.Goals as goal

pub returns : goal.returns
returns c = among_more
