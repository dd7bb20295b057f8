use Rattle.gt_model.proofs.Logs.{after_all-append}
use Rattle.gt_model.proofs.laws.contents_add_up.Goals as goal

pub returns : goal.returns
returns c = after_all-append
