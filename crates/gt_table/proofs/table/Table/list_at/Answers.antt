use Rattle.std.proofs.Common.{◌≡◌, IfOk, subst}
use Rattle.gt_model.specs.Contents.{Names}
use Rattle.gt_model.specs.Machine.{references}
use Rattle.gt_table.proofs.FollowLaws.{refs_there}
use Rattle.gt_table.proofs.table.Table.list_at.Goals as goal

pub returns : goal.returns
returns c =
    let from = rw (← c.self.view_is) at c.requires.from in
    let to = rw (← c.self.view_is) at c.requires.to in
    let here = refs_there _ c.args.at c.args.path.now c.self.invariant from to in
    rw (← c.self.view_is) (subst (λ (m : Names). IfOk c.list.result (λ l. l ≡ references m c.args.prefix.now)) here c.list.ensures)
