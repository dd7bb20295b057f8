use Rattle.std.proofs.Common.{◌≡◌, ◌+◌, ap, arith}
use Rattle.gt_table.specs.Table.{Past, content_at, entries_past}
use Rattle.gt_table.proofs.FollowLaws.{in_refs, in_objects}
use Rattle.gt_table.proofs.MovedLaws.{raised}
use Rattle.gt_table.proofs.table.Table.raise.Goals as goal

pub drop_front-requires : goal.drop_front-requires
drop_front-requires c =
    let from = rw (← c.self.view_is) at c.requires.from in
    let to = rw (← c.self.view_is) at c.requires.to in
    let floor = c.self.invariant.refs_floor in
    omega (arith, from, to, floor, c.floor.ensures)

pub raise-requires : goal.raise-requires
raise-requires c =
    let from = rw (← c.self.view_is) at c.requires.from in
    let to = rw (← c.self.view_is) at c.requires.to in
    let here = in_refs _ c.args.to c.self.invariant from to in
    record { from = here.0; to = here.1 }

pub raise-requires-2 : goal.raise-requires-2
raise-requires-2 c =
    let from = rw (← c.self.view_is) at c.requires.from in
    let to = rw (← c.self.view_is) at c.requires.to in
    let here = in_objects _ c.args.to c.self.invariant from to in
    record { from = here.0; to = here.1 }

pub invariant_of-self : goal.invariant_of-self
invariant_of-self c =
    let past : Past = record { begin = c.self.inside.begin; repos = c.self.inside.repos.value; log = c.self.inside.entries.log } in
    let from = past.begin + c.self.inside.entries.gone in
    let low = rw (← c.self.view_is) at c.requires.from in
    let high = rw (← c.self.view_is) at c.requires.to in
    let floor = c.self.invariant.refs_floor in
    let at_floor : past.begin + c.drop_front.new.self.gone ≡ c.args.to = omega (arith, low, high, floor, c.floor.ensures, c.drop_front.ensures.gone) in
    let refs = in_refs _ c.args.to c.self.invariant low high in
    let objects = in_objects _ c.args.to c.self.invariant low high in
    raised _ _ c.args.to c.self.invariant low high (ap (λ l. record past { log = l }) c.drop_front.ensures.log) at_floor c.raise.ensures.raised.floor c.raise-2.ensures.raised.floor
    (c.raised_tables_agree.ensures c.self.inside.refs c.raise.new.self (content_at past from) (entries_past past from) c.args.to c.self.invariant.refs refs.0 refs.1 c.raise.ensures.raised)
    (c.raised_tables_agree-2.ensures c.self.inside.objects c.raise-2.new.self (content_at past from) (entries_past past from) c.args.to c.self.invariant.objects objects.0 objects.1 c.raise-2.ensures.raised)
