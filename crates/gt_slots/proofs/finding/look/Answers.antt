use Rattle.gt_slots.proofs.EntryLaws.{look_value, look_key}
use Rattle.gt_slots.proofs.finding.look.Goals as goal

pub returns-in-Some-clause-value : goal.returns-in-Some-clause-value
returns-in-Some-clause-value c = look_value c.args.name.now c.args.pages.now c.in-Some.place.page c.in-Some.place.slot _ c.requires c.in-Some.ensures.some c.slot_at.ensures

pub returns-in-Some-clause-key : goal.returns-in-Some-clause-key
returns-in-Some-clause-key c = look_key c.args.name.now c.args.pages.now c.in-Some.place.page c.in-Some.place.slot _ c.in-Some.ensures.some c.slot_at.ensures
