use Rattle.std.proofs.Common.{◌+◌, ap}
use Rattle.gt_base.specs.Held.{places_of}
use Rattle.gt_table.specs.Table.{Past, base, content_at, entries_past}
use Rattle.gt_table.proofs.FollowLaws.{followed, whole, unmoved_more, all_past}
use Rattle.gt_table.proofs.table.Table.add.Goals as goal

pub invariant_of-self : goal.invariant_of-self
invariant_of-self c =
    let past : Past = record { begin = c.self.inside.begin; repos = c.self.inside.repos.value; log = c.self.inside.entries.log } in
    let from = past.begin + c.self.inside.entries.gone in
    let entry = c.args.entry in
    let fit = rw (← c.self.view_is) at c.requires.fit in
    let fit_here = rw (← all_past past from) at fit in
    followed _ _ entry c.self.invariant c.with.ensures c.with-2.ensures (ap (λ l. record past { log = l }) c.add.ensures.log) c.add.ensures.gone
    (c.tables_follow_their_log.ensures c.self.inside.refs c.with.new.self (content_at past from) (entries_past past from) entry c.self.invariant.refs fit_here c.with.ensures)
    (c.tables_follow_their_logs.ensures.agree c.self.inside.objects c.with-2.new.self (content_at past from) (entries_past past from) entry c.self.invariant.objects c.with-2.ensures)

pub returns-clause-unmoved : goal.returns-clause-unmoved
returns-clause-unmoved c =
    let past : Past = record { begin = c.self.inside.begin; repos = c.self.inside.repos.value; log = c.self.inside.entries.log } in
    rw (← c.self.view_is) (λ unmoved. unmoved_more _ _ c.args.entry unmoved (ap (λ l. record past { log = l }) c.add.ensures.log) c.add.ensures.gone
    (c.tables_follow_their_logs.ensures.placed c.self.inside.objects c.with-2.new.self (base past) (places_of past.repos) past.log c.args.entry (whole _ c.self.invariant unmoved) unmoved.placed c.with-2.ensures))
