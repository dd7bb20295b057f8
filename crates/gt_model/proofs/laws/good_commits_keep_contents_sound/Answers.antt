use Rattle.gt_model.proofs.Sound.{commit_sound}
use Rattle.gt_model.proofs.laws.good_commits_keep_contents_sound.Goals as goal

pub returns : goal.returns
returns c c' path s ready sound named good = commit_sound c' path s ready sound named good
