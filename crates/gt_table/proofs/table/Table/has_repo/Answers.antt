use Rattle.std.proofs.Common.{◌+◌}
use Rattle.gt_table.specs.Table.{Past, content_at, entries_past}
use Rattle.gt_table.proofs.FollowLaws.{repo_here}
use Rattle.gt_table.proofs.table.Table.has_repo.Goals as goal

pub returns : goal.returns
returns c =
    let past : Past = record { begin = c.self.inside.begin; repos = c.self.inside.repos.value; log = c.self.inside.entries.log } in
    let from = past.begin + c.self.inside.entries.gone in
    let last = rw (← c.self.view_is) at c.front.ensures in
    let said = c.has_repo.ensures.content (content_at past from) (entries_past past from) c.self.invariant.objects in
    rw (← c.self.view_is) (repo_here _ c.has_repo.result c.front.result c.args.path.now c.self.invariant last said)
