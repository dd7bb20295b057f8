use Rattle.gt_mark.proofs.Going.{begun}
use Rattle.gt_mark.proofs.mark.Mark.begin.Goals as goal

pub returns-clause-underway : goal.returns-clause-underway
returns-clause-underway c mentions =
    begun c.args.roots.now mentions c.as_slice.result.now c.new-marked.result c.add_all.new.self c.as_slice.ensures c.new-marked.ensures c.add_all.ensures.finds c.in_ok-add_all.ensures.there
