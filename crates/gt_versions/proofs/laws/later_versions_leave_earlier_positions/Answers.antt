use Rattle.gt_versions.proofs.VersionLaws.{put_later, put_earlier}
use Rattle.gt_versions.proofs.laws.later_versions_leave_earlier_positions.Goals as goal

pub returns-clause-later : goal.returns-clause-later
returns-clause-later g c = put_later

pub returns-clause-earlier : goal.returns-clause-earlier
returns-clause-earlier g c = put_earlier
