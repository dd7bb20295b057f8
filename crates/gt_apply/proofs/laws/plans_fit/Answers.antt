use Rattle.gt_apply.proofs.FitLaws.{lists_on, fits_on}
use Rattle.gt_apply.proofs.laws.plans_fit.Goals as goal

pub returns-clause-lists : goal.returns-clause-lists
returns-clause-lists c = λ from next entries content h. lists_on from next entries content h

pub returns-clause-fits : goal.returns-clause-fits
returns-clause-fits c = λ from next entries content h short. fits_on from next entries content h short
