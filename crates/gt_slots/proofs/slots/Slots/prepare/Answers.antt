use Rattle.gt_slots.specs.Pages.{all}
use Rattle.gt_slots.proofs.SlotLaws.{ready_at}
use Rattle.gt_slots.proofs.slots.Slots.prepare.Goals as goal

pub returns-clause-ok : goal.returns-clause-ok
returns-clause-ok c = ready_at c.prepare_slot.result (all c.prepare_slot.new.pages.items) c.args.name.now c.prepare_slot.ensures.ok
