use Rattle.std.proofs.Common.{◌+◌}
use Rattle.std.specs.Option.{option_copied}
use Rattle.gt_table.specs.Table.{Past, content_at, entries_past}
use Rattle.gt_table.proofs.FollowLaws.{member_here}
use Rattle.gt_table.proofs.table.Table.least_member.Goals as goal

pub returns : goal.returns
returns c =
    let past : Past = record { begin = c.self.inside.begin; repos = c.self.inside.repos.value; log = c.self.inside.entries.log } in
    let from = past.begin + c.self.inside.entries.gone in
    let last = rw (← c.self.view_is) at c.front.ensures in
    let said = c.least_member.ensures (content_at past from) (entries_past past from) c.self.invariant.objects in
    rw (← c.self.view_is) (member_here _ (option_copied c.least_member.result) c.front.result c.args.path.now c.self.invariant last said)
