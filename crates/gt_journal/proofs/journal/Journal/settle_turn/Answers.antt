use Rattle.std.proofs.Common.{◌∙◌, sym}
use Rattle.gt_journal.specs.Ledger.{Ledger, ledger_of}
use Rattle.gt_journal.proofs.Turns.{memory_settled, settles_so, settled_so, goes_so, goes_still, remembers_so, remembers_so_still}
use Rattle.gt_journal.proofs.journal.Journal.settle_turn.Goals as goal

pub returns-in_err-_counts-clause-goes : goal.returns-in_err-_counts-clause-goes
returns-in_err-_counts-clause-goes g c told limits before after r =
    let l : Ledger = ledger_of c.self.inside.table c.self.inside.doubt c.self.inside.base c.self.inside.next in
    goes_still l c.args.self.now c.self.view_is c.self.invariant (sym c.in_doubt.ensures ∙ c.if-not-in_doubt.false) (g.D.Disk.view c.args.disk.now) (g.D.Disk.view c.settle.new.disk) (c.settle.ensures.run told) (c.settle.ensures.narrows told) limits c.in_err-_counts.field-0.0 c.settle.new.self c.in_err-_counts.ensures.base (c.in_err-_counts.ensures.after told) before after r

pub returns-in_err-_counts-clause-remembers : goal.returns-in_err-_counts-clause-remembers
returns-in_err-_counts-clause-remembers g c told r =
    let l : Ledger = ledger_of c.self.inside.table c.self.inside.doubt c.self.inside.base c.self.inside.next in
    remembers_so_still l c.args.self.now c.self.view_is c.self.invariant (sym c.in_doubt.ensures ∙ c.if-not-in_doubt.false) (g.D.Disk.view c.args.disk.now) (g.D.Disk.view c.settle.new.disk) (c.settle.ensures.run told) (c.settle.ensures.narrows told) c.in_err-_counts.field-0.0 c.settle.new.self c.in_err-_counts.ensures.base r

pub invariant_of-self-2 : goal.invariant_of-self-2
invariant_of-self-2 g c =
    let l : Ledger = ledger_of c.self.inside.table c.self.inside.doubt c.self.inside.base c.self.inside.next in
    memory_settled l c.args.self.now c.self.view_is c.self.invariant (sym c.in_doubt.ensures ∙ c.if-not-in_doubt.false) c.in_ok-_counts._counts c.settle.new.self c.in_ok-_counts.ensures.base

pub returns-clause-settles : goal.returns-clause-settles
returns-clause-settles g c pins =
    let l : Ledger = ledger_of c.self.inside.table c.self.inside.doubt c.self.inside.base c.self.inside.next in
    settles_so l c.args.self.now c.self.view_is c.self.invariant (sym c.in_doubt.ensures ∙ c.if-not-in_doubt.false) c.in_ok-_counts._counts c.settle.new.self c.in_ok-_counts.ensures.base pins

pub returns-clause-settled : goal.returns-clause-settled
returns-clause-settled g c =
    let l : Ledger = ledger_of c.self.inside.table c.self.inside.doubt c.self.inside.base c.self.inside.next in
    settled_so l c.args.self.now c.self.view_is c.self.invariant (sym c.in_doubt.ensures ∙ c.if-not-in_doubt.false) c.in_ok-_counts._counts c.settle.new.self c.in_ok-_counts.ensures.base

pub returns-clause-goes : goal.returns-clause-goes
returns-clause-goes g c told limits before after r =
    let l : Ledger = ledger_of c.self.inside.table c.self.inside.doubt c.self.inside.base c.self.inside.next in
    goes_so l c.args.self.now c.self.view_is c.self.invariant (sym c.in_doubt.ensures ∙ c.if-not-in_doubt.false) (g.D.Disk.view c.args.disk.now) (g.D.Disk.view c.settle.new.disk) (c.settle.ensures.run told) (c.settle.ensures.narrows told) limits c.in_ok-_counts._counts c.settle.new.self c.in_ok-_counts.ensures.base (c.in_ok-_counts.ensures.after told) before after r

pub returns-clause-remembers : goal.returns-clause-remembers
returns-clause-remembers g c told r =
    let l : Ledger = ledger_of c.self.inside.table c.self.inside.doubt c.self.inside.base c.self.inside.next in
    remembers_so l c.args.self.now c.self.view_is c.self.invariant (sym c.in_doubt.ensures ∙ c.if-not-in_doubt.false) (g.D.Disk.view c.args.disk.now) (g.D.Disk.view c.settle.new.disk) (c.settle.ensures.run told) (c.settle.ensures.narrows told) c.in_ok-_counts._counts c.settle.new.self c.in_ok-_counts.ensures.base r
