use Rattle.std.proofs.Common.{◌+◌, ap, ◌∙◌}
use Rattle.gt_model.specs.Histories.{all_refs}
use Rattle.gt_table.specs.Table.{Past, content_at, entries_past}
use Rattle.gt_table.proofs.FollowLaws.{all_here, all_past}
use Rattle.gt_table.proofs.table.Table.all_refs.Goals as goal

pub returns : goal.returns
returns c =
    let past : Past = record { begin = c.self.inside.begin; repos = c.self.inside.repos.value; log = c.self.inside.entries.log } in
    let from = past.begin + c.self.inside.entries.gone in
    rw (← c.self.view_is) (all_here c.list_all.result _ past c.list_all.ensures (c.lists_are_of_contents.ensures c.self.inside.refs (content_at past from) (entries_past past from) c.self.invariant.refs ∙ ap all_refs (all_past past from)))
