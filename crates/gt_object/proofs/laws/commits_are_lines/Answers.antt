use Rattle.gt_object.proofs.CommitLaws.{commit_takes, commit_again}
use Rattle.gt_object.proofs.laws.commits_are_lines.Goals as goal

pub returns : goal.returns
returns c = λ b tree parents good. (commit_takes b good tree parents, commit_again b tree parents)
