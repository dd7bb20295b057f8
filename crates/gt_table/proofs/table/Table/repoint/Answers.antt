use Rattle.std.proofs.Common.{refl, ◌+◌, arith}
use Rattle.gt_table.specs.Table.{Past, content_at, entries_past}
use Rattle.gt_table.proofs.FollowLaws.{in_objects}
use Rattle.gt_table.proofs.MovedLaws.{repointed}
use Rattle.gt_table.proofs.table.Table.repoint.Goals as goal

pub repoint-requires : goal.repoint-requires
repoint-requires c =
    let from = rw (← c.self.view_is) at c.requires.from in
    let to = rw (← c.self.view_is) at c.requires.to in
    let here = in_objects _ c.args.at c.self.invariant from to in
    record { from = omega (arith, here.0, here.1); to = omega (arith, here.0, here.1) }

pub invariant_of-self : goal.invariant_of-self
invariant_of-self c =
    let past : Past = record { begin = c.self.inside.begin; repos = c.self.inside.repos.value; log = c.self.inside.entries.log } in
    let from = past.begin + c.self.inside.entries.gone in
    repointed _ _ c.self.invariant refl refl refl c.repoint.ensures.floor
    (c.repointed_tables_agree.ensures c.self.inside.objects c.repoint.new.self (content_at past from) (entries_past past from) _ _ _ _ c.self.invariant.objects c.repoint.ensures)
