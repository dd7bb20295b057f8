use Rattle.gt_objset.proofs.MovedLaws.{repointed_agrees}
use Rattle.gt_objset.proofs.laws.repointed_tables_agree.Goals as goal

pub returns : goal.returns
returns c = λ old new base log p path x place h r. repointed_agrees old new base log p path x place h r
