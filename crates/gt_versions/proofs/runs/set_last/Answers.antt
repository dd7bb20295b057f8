use Rattle.std.proofs.Common.{arith}
use Rattle.gt_versions.proofs.SetLaws.{set_is_none, set_is_some}
use Rattle.gt_versions.proofs.runs.set_last.Goals as goal

pub returns-then-count-gt0 : goal.returns-then-count-gt0
returns-then-count-gt0 g c = set_is_some c.as_slice.result.now c.args.items.now.items c.args.position c.count_up_to-count.result c.as_slice.ensures.value c.count_up_to-count.ensures.parts c.args.value c.if-count-gt0.true c.count_up_to-count.ensures.bound c.index.result.now c.index.ensures

pub returns-else-count-gt0 : goal.returns-else-count-gt0
returns-else-count-gt0 g c = set_is_none c.as_slice.result.now c.args.items.now.items c.args.position c.count_up_to-count.result c.as_slice.ensures.value c.count_up_to-count.ensures.parts c.args.value (omega arith)
