use Rattle.gt_reftext.proofs.ValueLemmas.{none_is_zero}
use Rattle.gt_reftext.proofs.reading.read_packed.Goals as goal

pub returns-clause-no_zero : goal.returns-clause-no_zero
returns-clause-no_zero c = none_is_zero c.args.bytes.now c.read_list.result c.read_list.ensures.exact
