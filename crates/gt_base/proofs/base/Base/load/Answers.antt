use Rattle.gt_disk.proofs.Steps.{narrows_quiet}
use Rattle.gt_base.proofs.base.Base.load.Goals as goal

pub returns-clause-moments : goal.returns-clause-moments
returns-clause-moments g c told = narrows_quiet _ _ _ (c.mount_turn.ensures.moments told) (c.read_limited.ensures.quiet told)
