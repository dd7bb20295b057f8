use Rattle.std.proofs.Common.{◌∙◌}
use Rattle.gt_reftext.proofs.LooseLemmas.{loose_is}
use Rattle.gt_reftext.proofs.loose.read_loose.Goals as goal

pub returns-in-Ok-clause-found : goal.returns-in-Ok-clause-found
returns-in-Ok-clause-found c = loose_is c.args.bytes.now c.in-Ok.name c.if-bytes-ne41.false c.if-bytes-ne10.false (c.in-Ok.ensures.ok.1 ∙ c.split_at.ensures.front)
