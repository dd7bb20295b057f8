use Rattle.gt_model.proofs.Needs.{good_needs}
use Rattle.gt_model.proofs.laws.good_commits_say_what_they_need.Goals as goal

pub returns : goal.returns
returns c c' path s ready position = good_needs c' path s ready
