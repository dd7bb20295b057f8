use Rattle.std.proofs.Common.{arith, ◌-◌, ◌<◌, ap, ◌∙◌, sym, is_some}
use Rattle.gt_versions.specs.Runs.{next_after, value_at}
use Rattle.gt_versions.proofs.SetLaws.{next_more}
use Rattle.gt_versions.proofs.RunLaws.{nothing_yet, nothing_begins, ends_here, ends_last, ends_between, goes_on}
use Rattle.gt_versions.proofs.runs.Versions+Option+V.set_run.Goals as goal

pub returns-then-begins_before : goal.returns-then-begins_before
returns-then-begins_before g c = nothing_begins c.args.floor c.args.position c.args.value c.args.lives.now.0 c.args.self.now.0 c.law_order-2.ensures c.law_order.ensures (sym c.begins_before.ensures ∙ c.if-begins_before.true)

pub run-init : goal.run-init
run-init g c = nothing_yet c.args.floor c.args.position c.args.value c.args.lives.now.0 c.args.self.now.0 (sym c.begins_before.ensures ∙ c.if-begins_before.false)

pub returns : goal.returns
returns g c = ends_here c.args.floor c.args.position c.run.here c.args.value c.args.lives.now.0 c.args.self.now.0 c.run.self.0 c.requires c.run.invariant (sym c.counts.ensures.value ∙ c.run-test.false)

pub returns-in_default : goal.returns-in_default
returns-in_default g c = rw c.set.ensures (ends_last c.args.floor c.args.position c.run.here c.args.value c.args.lives.now.0 c.args.self.now.0 c.run.self.0 c.requires c.run.invariant c.counts.ensures.lives c.counts.ensures.ordered (sym c.counts.ensures.value ∙ c.run-test.true) (ap (λ l. next_after l c.run.here) (sym c.set.ensures) ∙ sym c.next.ensures ∙ c.in_default.is))

pub overflow_sub-next : goal.overflow_sub-next
overflow_sub-next g c = let past : c.run.here < c.in-Some.next = next_more c.set.new.self.0 c.run.here c.in-Some.next (sym c.next.ensures ∙ c.in-Some.is) in omega arith

pub returns-then-not-counts : goal.returns-then-not-counts
returns-then-not-counts g c = rw c.set.ensures (ends_between c.args.floor c.args.position c.run.here c.args.value c.args.lives.now.0 c.args.self.now.0 c.run.self.0 c.requires c.run.invariant c.counts.ensures.lives c.counts.ensures.ordered (sym c.counts.ensures.value ∙ c.run-test.true) c.in-Some.next (ap (λ l. next_after l c.run.here) (sym c.set.ensures) ∙ sym c.next.ensures ∙ c.in-Some.is) (sym (ap (λ l. is_some (value_at c.args.lives.now.0 l (c.in-Some.next - 1))) c.set.ensures) ∙ sym c.counts-in-run.ensures.value ∙ c.if-not-counts.true))

pub run-smaller : goal.run-smaller
run-smaller g c = let past : c.run.here < c.in-Some.next = next_more c.set.new.self.0 c.run.here c.in-Some.next (sym c.next.ensures ∙ c.in-Some.is) in omega arith

pub run-preserved : goal.run-preserved
run-preserved g c = rw c.set.ensures (goes_on c.args.floor c.args.position c.run.here c.args.value c.args.lives.now.0 c.args.self.now.0 c.run.self.0 c.requires c.run.invariant c.counts.ensures.lives c.counts.ensures.ordered (sym c.counts.ensures.value ∙ c.run-test.true) c.in-Some.next (ap (λ l. next_after l c.run.here) (sym c.set.ensures) ∙ sym c.next.ensures ∙ c.in-Some.is) (sym (ap (λ l. is_some (value_at c.args.lives.now.0 l (c.in-Some.next - 1))) c.set.ensures) ∙ sym c.counts-in-run.ensures.value ∙ c.if-not-counts.false))
