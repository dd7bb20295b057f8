use Rattle.std.proofs.Common.{◌+◌, is_some}
use Rattle.gt_table.specs.Table.{Past, content_at, entries_past}
use Rattle.gt_table.proofs.FollowLaws.{visible_there, unmoved_there}
use Rattle.gt_table.proofs.table.Table.place_at.Goals as goal

pub returns-clause-visible : goal.returns-clause-visible
returns-clause-visible c =
    let past : Past = record { begin = c.self.inside.begin; repos = c.self.inside.repos.value; log = c.self.inside.entries.log } in
    let from = past.begin + c.self.inside.entries.gone in
    let low = rw (← c.self.view_is) at c.requires.from in
    rw (← c.self.view_is) (visible_there _ (is_some c.place.result) c.args.at c.args.path.now c.args.name.now c.self.invariant low (c.place.ensures.visible (content_at past from) (entries_past past from) c.self.invariant.objects))

pub returns-clause-unmoved : goal.returns-clause-unmoved
returns-clause-unmoved c = rw (← c.self.view_is) (λ unmoved. unmoved_there _ c.place.result c.args.at c.args.path.now c.args.name.now c.self.invariant unmoved c.place.ensures.content)
