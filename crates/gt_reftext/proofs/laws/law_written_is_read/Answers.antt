use Rattle.gt_reftext.proofs.ReadBack.{read_back}
use Rattle.gt_reftext.proofs.laws.law_written_is_read.Goals as goal

pub returns : goal.returns
returns c = read_back
