use Rattle.gt_versions.proofs.SetLaws.{next_is_none, next_is_some}
use Rattle.gt_versions.proofs.versions.Versions.next.Goals as goal

pub returns-then-count-items : goal.returns-then-count-items
returns-then-count-items g c = rw (← c.self.view_is) (next_is_some c.as_slice-items.result.now c.self.inside.items.items c.args.position c.count_up_to-count.result c.as_slice-items.ensures.value c.count_up_to-count.ensures.parts c.if-count-items.true c.index-items-count.result)

pub returns-else-count-items : goal.returns-else-count-items
returns-else-count-items g c = rw (← c.self.view_is) (next_is_none c.as_slice-items.result.now c.self.inside.items.items c.args.position c.count_up_to-count.result c.as_slice-items.ensures.value c.count_up_to-count.ensures.parts c.if-count-items.false)
