use Rattle.std.proofs.Common.{length, ap}
use Rattle.gt_slots.proofs.page.Page.len.Goals as goal

pub returns : goal.returns
returns c = rw (← c.self.view_is) (ap length c.as_slice.ensures.value)
