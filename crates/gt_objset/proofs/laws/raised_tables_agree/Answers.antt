use Rattle.gt_objset.proofs.RaisedLaws.{raised_agrees}
use Rattle.gt_objset.proofs.laws.raised_tables_agree.Goals as goal

pub returns : goal.returns
returns c = raised_agrees
