use Rattle.gt_versions.proofs.Keys.{removed}
use Rattle.gt_slots.specs.Pages.{all}
use Rattle.gt_slots.proofs.slots.Slots.remove.Goals as goal

pub returns : goal.returns
returns c = rw (← c.self.view_is) (removed (all c.self.inside.pages.items) (all c.remove_slot.new.pages.items) c.args.name.now c.remove_slot.ensures.slots)
