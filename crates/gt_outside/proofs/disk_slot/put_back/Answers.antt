use Rattle.std.proofs.Common.{refl, arith}
use Rattle.gt_outside.proofs.PlacesLemmas.{gives-set, out_within}
use Rattle.gt_outside.proofs.disk_slot.put_back.Goals as goal

pub returns-then-index-len-clause-given : goal.returns-then-index-len-clause-given
returns-then-index-len-clause-given c = gives-set c.args.places.now.items _ _ _ c.args.disk c.from-index.ensures (omega (arith, c.args.places.now.ok.0)) refl

pub returns-else-index-len-clause-given : goal.returns-else-index-len-clause-given
returns-else-index-len-clause-given c = absurd (omega (arith, out_within c.args.places.now.items c.args.number c.requires, c.args.places.now.ok.0))
