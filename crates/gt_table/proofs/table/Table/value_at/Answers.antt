use Rattle.std.proofs.Common.{ap, ◌∙◌}
use Rattle.std.specs.FinMap as map
use Rattle.gt_model.specs.Contents.{Names}
use Rattle.gt_table.specs.Table.{Past, content_at}
use Rattle.gt_table.proofs.FollowLaws.{refs_there}
use Rattle.gt_table.proofs.table.Table.value_at.Goals as goal

pub returns : goal.returns
returns c =
    let past : Past = record { begin = c.self.inside.begin; repos = c.self.inside.repos.value; log = c.self.inside.entries.log } in
    let from = rw (← c.self.view_is) at c.requires.from in
    let to = rw (← c.self.view_is) at c.requires.to in
    let here = refs_there _ c.args.at c.args.path.now c.self.invariant from to in
    rw (← c.self.view_is) (c.get.ensures ∙ ap (λ (m : Names). map.get m c.args.name.now) here ∙ c.references_are_values.ensures (content_at past c.args.at) c.args.path.now c.args.name.now)
