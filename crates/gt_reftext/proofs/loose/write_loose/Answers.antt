use Rattle.std.proofs.Common.{arith}
use Rattle.gt_reftext.proofs.LooseLemmas.{loose_back}
use Rattle.gt_reftext.proofs.loose.write_loose.Goals as goal

pub returns-clause-reads_back : goal.returns-clause-reads_back
returns-clause-reads_back c = rw c.copy_from_slice.ensures.after (loose_back c.text.result (omega arith) c.text.ensures.parses.0)
