use Rattle.std.proofs.Common.{◌≡◌, ◌-◌, ◌∙◌, ap, arith, take, drop}
use Rattle.gt_manifest.specs.declared.manifest.Manifest.{Manifest}
use Rattle.gt_journal.specs.Applying.{next_entries}
use Rattle.gt_journal.specs.Ledger.{Ledger, ledger_of}
use Rattle.gt_journal.proofs.Applied.{part_past, advances, memory_done, memory_doubted, goes_done, remembers_after, goes_doubted, remembers_doubted, goes_kept, remembers_kept_so}
use Rattle.gt_journal.proofs.journal.Journal.apply_some.Goals as goal

pub advance-requires-clause-next : goal.advance-requires-clause-next
advance-requires-clause-next g c =
    let l : Ledger = ledger_of c.self.inside.table c.self.inside.doubt c.self.inside.base c.self.inside.next in
    let es = c.some_behind-entries.result.now in
    let applied = ap (λ (m : Manifest). m.applied) c.manifest.ensures in
    let is : es ≡ next_entries l c.args.n = c.some_behind-entries.ensures ∙ (λ i. take c.args.n (drop (applied i - c.floor-floor.ensures i) (c.entries.ensures i))) ∙ part_past c.self.inside.table l.base.manifest.applied c.args.n c.self.invariant.floor in
    advances l c.args.self.now c.self.view_is c.args.n es is c.self.invariant c.requires.settled c.requires.flat c.requires.some c.requires.most c.requires.numbers c.requires.last (omega (arith, c.requires.front)) c.built_entries_keep_good_pools.ensures c.few_entries_add_few_files.ensures

pub invariant_of-self : goal.invariant_of-self
invariant_of-self g c =
    let l : Ledger = ledger_of c.self.inside.table c.self.inside.doubt c.self.inside.base c.self.inside.next in
    let es = c.some_behind-entries.result.now in
    let applied = ap (λ (m : Manifest). m.applied) c.manifest.ensures in
    let is : es ≡ next_entries l c.args.n = c.some_behind-entries.ensures ∙ (λ i. take c.args.n (drop (applied i - c.floor-floor.ensures i) (c.entries.ensures i))) ∙ part_past c.self.inside.table l.base.manifest.applied c.args.n c.self.invariant.floor in
    memory_done l c.args.self.now c.self.view_is c.args.n es is c.self.invariant c.requires.settled c.requires.flat c.requires.some c.requires.most c.requires.numbers c.requires.last (omega (arith, c.requires.front)) c.built_entries_keep_good_pools.ensures c.few_entries_add_few_files.ensures c.plans_fit.ensures.lists c.advance.new.base c.next-self-inside.result c.in-Ok.ensures.base c.next-self-inside.ensures (c.in-Ok.ensures.fits (λ e. absurd (cc e)) (λ e. absurd (cc e)))

pub invariant_of-self-in-Err-Unsure : goal.invariant_of-self-in-Err-Unsure
invariant_of-self-in-Err-Unsure g c =
    let l : Ledger = ledger_of c.self.inside.table c.self.inside.doubt c.self.inside.base c.self.inside.next in
    let es = c.some_behind-entries.result.now in
    let applied = ap (λ (m : Manifest). m.applied) c.manifest.ensures in
    let is : es ≡ next_entries l c.args.n = c.some_behind-entries.ensures ∙ (λ i. take c.args.n (drop (applied i - c.floor-floor.ensures i) (c.entries.ensures i))) ∙ part_past c.self.inside.table l.base.manifest.applied c.args.n c.self.invariant.floor in
    let base = rw c.in-Err-Unsure.field-0-is at c.in-Err-Unsure.ensures.base in
    let fits = rw c.in-Err-Unsure.field-0-is at c.in-Err-Unsure.ensures.fits in
    memory_doubted l c.args.self.now c.self.view_is c.args.n es is c.self.invariant c.requires.settled c.requires.flat c.requires.some c.requires.most c.requires.numbers c.requires.last (omega (arith, c.requires.front)) c.built_entries_keep_good_pools.ensures c.few_entries_add_few_files.ensures c.plans_fit.ensures.lists c.advance.new.base c.next-self-inside-in-Err-Unsure.result base c.next-self-inside-in-Err-Unsure.ensures (fits (λ e. absurd (cc e)) (λ e. absurd (cc e)))

pub returns-in-Ok-clause-goes : goal.returns-in-Ok-clause-goes
returns-in-Ok-clause-goes g c told =
    let l : Ledger = ledger_of c.self.inside.table c.self.inside.doubt c.self.inside.base c.self.inside.next in
    let es = c.some_behind-entries.result.now in
    let applied = ap (λ (m : Manifest). m.applied) c.manifest.ensures in
    let is : es ≡ next_entries l c.args.n = c.some_behind-entries.ensures ∙ (λ i. take c.args.n (drop (applied i - c.floor-floor.ensures i) (c.entries.ensures i))) ∙ part_past c.self.inside.table l.base.manifest.applied c.args.n c.self.invariant.floor in
    goes_done l c.args.self.now c.self.view_is c.args.n es is c.self.invariant c.requires.settled c.requires.flat c.requires.some c.requires.most c.requires.numbers c.requires.last (omega (arith, c.requires.front)) c.built_entries_keep_good_pools.ensures c.few_entries_add_few_files.ensures c.args.limits.now c.requires.epochs (g.D.Disk.view c.args.disk.now) (g.D.Disk.view c.advance.new.disk) (g.met.D.Disk.shows c.args.disk.now told) c.advance.new.base c.next-self-inside.result c.in-Ok.ensures.base c.next-self-inside.ensures (c.in-Ok.ensures.fits (λ e. absurd (cc e)) (λ e. absurd (cc e))) (c.in-Ok.ensures.any_moment told) (c.in-Ok.ensures.after told)

pub returns-in-Ok-clause-remembers : goal.returns-in-Ok-clause-remembers
returns-in-Ok-clause-remembers g c told =
    let l : Ledger = ledger_of c.self.inside.table c.self.inside.doubt c.self.inside.base c.self.inside.next in
    let es = c.some_behind-entries.result.now in
    let applied = ap (λ (m : Manifest). m.applied) c.manifest.ensures in
    let is : es ≡ next_entries l c.args.n = c.some_behind-entries.ensures ∙ (λ i. take c.args.n (drop (applied i - c.floor-floor.ensures i) (c.entries.ensures i))) ∙ part_past c.self.inside.table l.base.manifest.applied c.args.n c.self.invariant.floor in
    remembers_after l c.args.self.now c.self.view_is c.args.n es is c.self.invariant c.requires.settled c.requires.flat c.requires.some c.requires.most c.requires.numbers c.requires.last (omega (arith, c.requires.front)) c.built_entries_keep_good_pools.ensures c.few_entries_add_few_files.ensures c.args.limits.now c.requires.epochs (g.D.Disk.view c.args.disk.now) (g.D.Disk.view c.advance.new.disk) (g.met.D.Disk.shows c.args.disk.now told) c.advance.new.base c.next-self-inside.result c.in-Ok.ensures.base c.next-self-inside.ensures (c.in-Ok.ensures.fits (λ e. absurd (cc e)) (λ e. absurd (cc e))) (c.in-Ok.ensures.after told)

pub returns-in-Err-Unsure-clause-goes : goal.returns-in-Err-Unsure-clause-goes
returns-in-Err-Unsure-clause-goes g c told =
    let l : Ledger = ledger_of c.self.inside.table c.self.inside.doubt c.self.inside.base c.self.inside.next in
    let es = c.some_behind-entries.result.now in
    let applied = ap (λ (m : Manifest). m.applied) c.manifest.ensures in
    let is : es ≡ next_entries l c.args.n = c.some_behind-entries.ensures ∙ (λ i. take c.args.n (drop (applied i - c.floor-floor.ensures i) (c.entries.ensures i))) ∙ part_past c.self.inside.table l.base.manifest.applied c.args.n c.self.invariant.floor in
    let base = rw c.in-Err-Unsure.field-0-is at c.in-Err-Unsure.ensures.base in
    let fits = rw c.in-Err-Unsure.field-0-is at c.in-Err-Unsure.ensures.fits in
    let any_moment = rw c.in-Err-Unsure.field-0-is at c.in-Err-Unsure.ensures.any_moment in
    let later = rw c.in-Err-Unsure.field-0-is at c.in-Err-Unsure.ensures.after in
    goes_doubted l c.args.self.now c.self.view_is c.args.n es is c.self.invariant c.requires.settled c.requires.flat c.requires.some c.requires.most c.requires.numbers c.requires.last (omega (arith, c.requires.front)) c.built_entries_keep_good_pools.ensures c.few_entries_add_few_files.ensures c.args.limits.now c.requires.epochs (g.D.Disk.view c.args.disk.now) (g.D.Disk.view c.advance.new.disk) (g.met.D.Disk.shows c.args.disk.now told) c.advance.new.base c.next-self-inside-in-Err-Unsure.result base c.next-self-inside-in-Err-Unsure.ensures (fits (λ e. absurd (cc e)) (λ e. absurd (cc e))) (any_moment told) (later told)

pub returns-in-Err-Unsure-clause-remembers : goal.returns-in-Err-Unsure-clause-remembers
returns-in-Err-Unsure-clause-remembers g c told =
    let l : Ledger = ledger_of c.self.inside.table c.self.inside.doubt c.self.inside.base c.self.inside.next in
    let es = c.some_behind-entries.result.now in
    let applied = ap (λ (m : Manifest). m.applied) c.manifest.ensures in
    let is : es ≡ next_entries l c.args.n = c.some_behind-entries.ensures ∙ (λ i. take c.args.n (drop (applied i - c.floor-floor.ensures i) (c.entries.ensures i))) ∙ part_past c.self.inside.table l.base.manifest.applied c.args.n c.self.invariant.floor in
    let base = rw c.in-Err-Unsure.field-0-is at c.in-Err-Unsure.ensures.base in
    let fits = rw c.in-Err-Unsure.field-0-is at c.in-Err-Unsure.ensures.fits in
    let later = rw c.in-Err-Unsure.field-0-is at c.in-Err-Unsure.ensures.after in
    remembers_doubted l c.args.self.now c.self.view_is c.args.n es is c.self.invariant c.requires.settled c.requires.flat c.requires.some c.requires.most c.requires.numbers c.requires.last (omega (arith, c.requires.front)) c.built_entries_keep_good_pools.ensures c.few_entries_add_few_files.ensures c.args.limits.now c.requires.epochs (g.D.Disk.view c.args.disk.now) (g.D.Disk.view c.advance.new.disk) (g.met.D.Disk.shows c.args.disk.now told) c.advance.new.base c.next-self-inside-in-Err-Unsure.result base c.next-self-inside-in-Err-Unsure.ensures (fits (λ e. absurd (cc e)) (λ e. absurd (cc e))) (later told)

pub returns-in-Err-Untouched-clause-goes : goal.returns-in-Err-Untouched-clause-goes
returns-in-Err-Untouched-clause-goes g c told =
    let l : Ledger = ledger_of c.self.inside.table c.self.inside.doubt c.self.inside.base c.self.inside.next in
    let es = c.some_behind-entries.result.now in
    let applied = ap (λ (m : Manifest). m.applied) c.manifest.ensures in
    let is : es ≡ next_entries l c.args.n = c.some_behind-entries.ensures ∙ (λ i. take c.args.n (drop (applied i - c.floor-floor.ensures i) (c.entries.ensures i))) ∙ part_past c.self.inside.table l.base.manifest.applied c.args.n c.self.invariant.floor in
    let base = rw c.in-Err-Untouched.field-0-is at c.in-Err-Untouched.ensures.base in
    let any_moment = rw c.in-Err-Untouched.field-0-is at c.in-Err-Untouched.ensures.any_moment in
    let later = rw c.in-Err-Untouched.field-0-is at c.in-Err-Untouched.ensures.after in
    goes_kept l c.args.self.now c.self.view_is c.args.n es is c.self.invariant c.requires.settled c.requires.flat c.requires.some c.requires.most c.requires.numbers c.requires.last (omega (arith, c.requires.front)) c.built_entries_keep_good_pools.ensures c.few_entries_add_few_files.ensures c.args.limits.now c.requires.epochs (g.D.Disk.view c.args.disk.now) (g.D.Disk.view c.advance.new.disk) (g.met.D.Disk.shows c.args.disk.now told) c.advance.new.base base (any_moment told) (later told)

pub returns-in-Err-Untouched-clause-remembers : goal.returns-in-Err-Untouched-clause-remembers
returns-in-Err-Untouched-clause-remembers g c told =
    let l : Ledger = ledger_of c.self.inside.table c.self.inside.doubt c.self.inside.base c.self.inside.next in
    let es = c.some_behind-entries.result.now in
    let applied = ap (λ (m : Manifest). m.applied) c.manifest.ensures in
    let is : es ≡ next_entries l c.args.n = c.some_behind-entries.ensures ∙ (λ i. take c.args.n (drop (applied i - c.floor-floor.ensures i) (c.entries.ensures i))) ∙ part_past c.self.inside.table l.base.manifest.applied c.args.n c.self.invariant.floor in
    let base = rw c.in-Err-Untouched.field-0-is at c.in-Err-Untouched.ensures.base in
    let later = rw c.in-Err-Untouched.field-0-is at c.in-Err-Untouched.ensures.after in
    remembers_kept_so l c.args.self.now c.self.view_is c.args.n es is c.self.invariant c.requires.settled c.requires.flat c.requires.some c.requires.most c.requires.numbers c.requires.last (omega (arith, c.requires.front)) c.built_entries_keep_good_pools.ensures c.few_entries_add_few_files.ensures c.args.limits.now c.requires.epochs (g.D.Disk.view c.args.disk.now) (g.D.Disk.view c.advance.new.disk) (g.met.D.Disk.shows c.args.disk.now told) c.advance.new.base base (later told)

pub returns-in-Err-Memory-clause-goes : goal.returns-in-Err-Memory-clause-goes
returns-in-Err-Memory-clause-goes g c told =
    let l : Ledger = ledger_of c.self.inside.table c.self.inside.doubt c.self.inside.base c.self.inside.next in
    let es = c.some_behind-entries.result.now in
    let applied = ap (λ (m : Manifest). m.applied) c.manifest.ensures in
    let is : es ≡ next_entries l c.args.n = c.some_behind-entries.ensures ∙ (λ i. take c.args.n (drop (applied i - c.floor-floor.ensures i) (c.entries.ensures i))) ∙ part_past c.self.inside.table l.base.manifest.applied c.args.n c.self.invariant.floor in
    let base = rw c.in-Err-Memory.field-0-is at c.in-Err-Memory.ensures.base in
    let any_moment = rw c.in-Err-Memory.field-0-is at c.in-Err-Memory.ensures.any_moment in
    let later = rw c.in-Err-Memory.field-0-is at c.in-Err-Memory.ensures.after in
    goes_kept l c.args.self.now c.self.view_is c.args.n es is c.self.invariant c.requires.settled c.requires.flat c.requires.some c.requires.most c.requires.numbers c.requires.last (omega (arith, c.requires.front)) c.built_entries_keep_good_pools.ensures c.few_entries_add_few_files.ensures c.args.limits.now c.requires.epochs (g.D.Disk.view c.args.disk.now) (g.D.Disk.view c.advance.new.disk) (g.met.D.Disk.shows c.args.disk.now told) c.advance.new.base base (any_moment told) (later told)

pub returns-in-Err-Memory-clause-remembers : goal.returns-in-Err-Memory-clause-remembers
returns-in-Err-Memory-clause-remembers g c told =
    let l : Ledger = ledger_of c.self.inside.table c.self.inside.doubt c.self.inside.base c.self.inside.next in
    let es = c.some_behind-entries.result.now in
    let applied = ap (λ (m : Manifest). m.applied) c.manifest.ensures in
    let is : es ≡ next_entries l c.args.n = c.some_behind-entries.ensures ∙ (λ i. take c.args.n (drop (applied i - c.floor-floor.ensures i) (c.entries.ensures i))) ∙ part_past c.self.inside.table l.base.manifest.applied c.args.n c.self.invariant.floor in
    let base = rw c.in-Err-Memory.field-0-is at c.in-Err-Memory.ensures.base in
    let later = rw c.in-Err-Memory.field-0-is at c.in-Err-Memory.ensures.after in
    remembers_kept_so l c.args.self.now c.self.view_is c.args.n es is c.self.invariant c.requires.settled c.requires.flat c.requires.some c.requires.most c.requires.numbers c.requires.last (omega (arith, c.requires.front)) c.built_entries_keep_good_pools.ensures c.few_entries_add_few_files.ensures c.args.limits.now c.requires.epochs (g.D.Disk.view c.args.disk.now) (g.D.Disk.view c.advance.new.disk) (g.met.D.Disk.shows c.args.disk.now told) c.advance.new.base base (later told)
