use Rattle.gt_object.proofs.WholeLaws.{parts_are}
use Rattle.gt_object.proofs.laws.records_have_parts.Goals as goal

pub returns : goal.returns
returns c = parts_are
