use Rattle.std.proofs.Common.{◌≡◌, ◌+◌, ◌-◌, ◌≤◌, ℕ, List, Result, Ok, sym, ap, ◌∙◌, subst, arith}
use Rattle.gt_base.specs.Answers.{Blames}
use Rattle.gt_base.specs.Entries.{entries_in}
use Rattle.gt_base.specs.Held.{content_of}
use Rattle.gt_base.specs.Loading.{turn_then}
use Rattle.gt_base.specs.Recovery.{Based}
use Rattle.gt_base.specs.declared.held.BaseRepo.{BaseRepo}
use Rattle.gt_disk.specs.Kinds.{gate_file}
use Rattle.gt_disk.proofs.Steps.{narrows_quiet}
use Rattle.gt_log.specs.Log.{content_length}
use Rattle.gt_manifest.specs.declared.manifest.Manifest.{Manifest}
use Rattle.gt_model.specs.declared.entry.Entry.{Entry}
use Rattle.gt_reading.specs.Reading.{Damage, run}
use Rattle.gt_apply.specs.Fitting.{Lists}
use Rattle.gt_model.specs.Batches.{next_past}
use Rattle.gt_journal.proofs.Memory.{carried_start, next_above}
use Rattle.gt_journal.proofs.Based.{too_long, all_loaded, base_causes, entries_causes}
use Rattle.gt_journal.proofs.loading.load.Goals as goal

pub returns-then-gate-limits-clause-loads : goal.returns-then-gate-limits-clause-loads
returns-then-gate-limits-clause-loads g c told len = too_long c.args.limits.now (g.D.Disk.view c.args.disk.now).reads (omega (arith, len, c.len-gate.ensures, c.if-gate-limits.true))

pub returns-in-Err-clause-loads : goal.returns-in-Err-clause-loads
returns-in-Err-clause-loads g c told len =
    let files = (g.D.Disk.view c.args.disk.now).reads in
    let gate : c.len-gate.result ≡ content_length (files gate_file) = c.len-gate.ensures ∙ len in
    base_causes c.args.limits.now files (omega (arith, gate, c.if-gate-limits.false)) c.in-Err.cause (subst (λ (n : ℕ). Blames (run files (turn_then c.args.limits.now n)) c.in-Err.cause) gate (c.in-Err.ensures.answer told))

pub returns-in-Ok-read_entries-clause-moments : goal.returns-in-Ok-read_entries-clause-moments
returns-in-Ok-read_entries-clause-moments g c told = narrows_quiet _ _ _ (c.load.ensures.moments told) (c.read_entries.ensures.quiet told)

pub returns-in-Err-read_entries-clause-moments : goal.returns-in-Err-read_entries-clause-moments
returns-in-Err-read_entries-clause-moments g c told = narrows_quiet _ _ _ (c.load.ensures.moments told) (c.read_entries.ensures.quiet told)

pub returns-in-Ok-read_entries-clause-loads : goal.returns-in-Ok-read_entries-clause-loads
returns-in-Ok-read_entries-clause-loads g c told len =
    let v = (g.D.Disk.view c.args.disk.now).reads in
    let gate : c.len-gate.result ≡ content_length (v gate_file) = c.len-gate.ensures ∙ len in
    let within : content_length (v gate_file) ≤ c.args.limits.now.positions = omega (arith, gate, c.if-gate-limits.false) in
    let b : Based = record { manifest = c.in-Ok.loaded.0.manifest; repos = c.in-Ok.loaded.1 } in
    let is : run v (turn_then c.args.limits.now (content_length (v gate_file))) ≡ Ok b = subst (λ (n : ℕ). run v (turn_then c.args.limits.now n) ≡ Ok b) gate (c.in-Ok.ensures.answer told) in
    let begin : c.manifest.result.now.applied ≡ b.manifest.applied = ap (λ (m : Manifest). m.applied) c.manifest.ensures in
    let read = c.in-Ok-read_entries.ensures.loads told in
    let here : run v (entries_in (content_of b.repos) (b.manifest.applied + 1) (content_length (v gate_file) - b.manifest.applied)) ≡ Ok c.in-Ok-read_entries.table.past.log =
    sym (λ i. run (c.load.ensures.reads told i) (entries_in (content_of b.repos) (begin i + 1) (len i - begin i))) ∙ read in
    all_loaded c.args.limits.now v within b c.in-Ok-read_entries.table.past.log is here
    ∙ ap (λ (repos : List BaseRepo). Ok (record { base = record { manifest = b.manifest; repos = repos }; log = c.in-Ok-read_entries.table.past.log })) (sym c.in-Ok-read_entries.ensures.repos)

pub returns-in-Err-read_entries-clause-loads : goal.returns-in-Err-read_entries-clause-loads
returns-in-Err-read_entries-clause-loads g c told len =
    let v = (g.D.Disk.view c.args.disk.now).reads in
    let gate : c.len-gate.result ≡ content_length (v gate_file) = c.len-gate.ensures ∙ len in
    let within : content_length (v gate_file) ≤ c.args.limits.now.positions = omega (arith, gate, c.if-gate-limits.false) in
    let b : Based = record { manifest = c.in-Ok.loaded.0.manifest; repos = c.in-Ok.loaded.1 } in
    let is : run v (turn_then c.args.limits.now (content_length (v gate_file))) ≡ Ok b = subst (λ (n : ℕ). run v (turn_then c.args.limits.now n) ≡ Ok b) gate (c.in-Ok.ensures.answer told) in
    let begin : c.manifest.result.now.applied ≡ b.manifest.applied = ap (λ (m : Manifest). m.applied) c.manifest.ensures in
    let read = c.in-Err-read_entries.ensures.loads told in
    let here : run (g.D.Disk.view c.load.new.disk).reads (entries_in (content_of b.repos) (c.manifest.result.now.applied + 1) (c.args.log.now.len - c.manifest.result.now.applied)) ≡ run v (entries_in (content_of b.repos) (b.manifest.applied + 1) (content_length (v gate_file) - b.manifest.applied)) =
    (λ i. run (c.load.ensures.reads told i) (entries_in (content_of b.repos) (begin i + 1) (len i - begin i))) in
    entries_causes c.args.limits.now v within b c.in-Err-read_entries.cause is (subst (λ (r : Result (List Entry) Damage). Blames r c.in-Err-read_entries.cause) here read)

pub read_entries-requires-clause-pools : goal.read_entries-requires-clause-pools
read_entries-requires-clause-pools g c = c.bases_list_their_repositories.ensures.pools c.in-Ok.loaded.0.manifest c.in-Ok.loaded.1 c.in-Ok.ensures.fits c.in-Ok.ensures.headings

pub returns-in-Ok-read_entries-clause-carried : goal.returns-in-Ok-read_entries-clause-carried
returns-in-Ok-read_entries-clause-carried g c =
    let m = c.in-Ok.loaded.0.manifest in
    let past = c.in-Ok-read_entries.table.past in
    let lists = c.bases_list_their_repositories.ensures.lists m c.in-Ok.loaded.1 c.in-Ok.ensures.fits c.in-Ok.ensures.headings in
    let begin : past.begin ≡ m.applied = c.in-Ok-read_entries.ensures.begin ∙ ap (λ (x : Manifest). x.applied) c.manifest.ensures in
    let first : c.manifest-2.result.now.next ≡ m.next = ap (λ (x : Manifest). x.next) c.manifest-2.ensures in
    carried_start past c.in-Ok-read_entries.next m c.in-Ok.ensures.fits begin (subst (λ (repos : List BaseRepo). Lists m (content_of repos)) (sym c.in-Ok-read_entries.ensures.repos) lists)
    (omega (arith, next_above m.next past.log, c.in-Ok-read_entries.ensures.numbered ∙ ap (λ (n : ℕ). next_past n past.log) first))
