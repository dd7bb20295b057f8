use Rattle.gt_reftext.proofs.ListLemmas.{names_are}
use Rattle.gt_reftext.proofs.so_far.whole.Goals as goal

pub returns-clause-ascending : goal.returns-clause-ascending
returns-clause-ascending c = rw (c.in_ok-list.ensures.list, names_are c.in_ok-all.all.entries) c.in_ok-list.ensures.ordered
