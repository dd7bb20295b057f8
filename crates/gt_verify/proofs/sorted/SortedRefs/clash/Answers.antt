use Rattle.gt_verify.proofs.SortedLaws.{clash_above}
use Rattle.gt_verify.proofs.sorted.SortedRefs.clash.Goals as goal

pub returns-in-Some : goal.returns-in-Some
returns-in-Some c = clash_above c.args.self.now c.args.name.now c.in-Some.found.now c.in-Some.ensures
