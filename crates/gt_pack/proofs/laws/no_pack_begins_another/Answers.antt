use Rattle.gt_pack.proofs.WholeLaws.{none_prefix}
use Rattle.gt_pack.proofs.laws.no_pack_begins_another.Goals as goal

pub returns : goal.returns
returns c = none_prefix
