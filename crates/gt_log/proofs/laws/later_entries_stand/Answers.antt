use Rattle.gt_log.proofs.Images.{later_recovers, later_stands}
use Rattle.gt_log.proofs.laws.later_entries_stand.Goals as goal

pub returns-clause-recovers : goal.returns-clause-recovers
returns-clause-recovers c = later_recovers

pub returns-clause-stands : goal.returns-clause-stands
returns-clause-stands c = later_stands
