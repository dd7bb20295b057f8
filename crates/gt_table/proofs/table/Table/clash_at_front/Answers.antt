use Rattle.std.proofs.Common.{ap, ◌∙◌}
use Rattle.std.specs.FinMap as map
use Rattle.std.specs.List.{list_any}
use Rattle.std.specs.Prelude.{find, not, ◌&&◌}
use Rattle.gt_model.specs.Contents.{Names}
use Rattle.gt_model.specs.Verdicts.{clashes, same_name}
use Rattle.gt_table.proofs.FollowLaws.{refs_here}
use Rattle.gt_table.proofs.table.Table.clash_at_front.Goals as goal

pub returns : goal.returns
returns c =
    let last = rw (← c.self.view_is) at c.front.ensures in
    let here = refs_here _ c.front.result c.args.path.now c.self.invariant last in
    rw (← c.self.view_is) (c.clash.ensures ∙ ap (λ (m : Names). find (λ other. clashes c.args.name.now other && not (list_any (same_name other) c.args.gone.now)) (map.keys m)) here)
