use Rattle.gt_versions.proofs.VersionLaws.{at_none, at_some}
use Rattle.gt_versions.proofs.versions.Versions.at.Goals as goal

pub returns-then-count-eq0 : goal.returns-then-count-eq0
returns-then-count-eq0 g c = rw (← c.self.view_is) (at_none c.as_slice-items.result.now c.self.inside.items.items c.args.position c.count_up_to-count.result c.as_slice-items.ensures.value c.count_up_to-count.ensures.parts c.if-count-eq0.true)

pub returns : goal.returns
returns g c = rw (← c.self.view_is) (at_some c.as_slice-items.result.now c.self.inside.items.items c.args.position c.count_up_to-count.result c.as_slice-items.ensures.value c.count_up_to-count.ensures.parts c.if-count-eq0.false c.count_up_to-count.ensures.bound c.index-items-count.result c.index-items-count.is)
