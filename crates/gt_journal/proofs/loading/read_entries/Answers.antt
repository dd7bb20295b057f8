use Rattle.std.proofs.Common.{refl, ◌≡◌, ◌+◌, ◌-◌, ◌++◌, [], ◌∷◌, List, ℕ, max, length, Ok, Err, length-append, ap, arith, ◌∙◌, sym, subst}
use Rattle.gt_base.specs.Held.{content_of}
use Rattle.gt_disk.specs.Kinds.{entry_file}
use Rattle.gt_model.specs.declared.entry.Entry.{Entry}
use Rattle.gt_table.specs.Table.{Past, base, content}
use Rattle.gt_journal.specs.Carried.{IsLogged}
use Rattle.gt_journal.proofs.Memory.{logged_push}
use Rattle.gt_journal.proofs.ReadLog.{read_log, prepend, entries_are}
use Rattle.gt_journal.proofs.LoadSteps.{load_more, load_unread, load_end, read_ok, here_now, quiet_join, next_more}
use Rattle.gt_journal.proofs.loading.read_entries.Goals as goal

pub returns-in-Err-clause-loads : goal.returns-in-Err-clause-loads
returns-in-Err-clause-loads g c told =
    let files = (g.D.Disk.view c.args.disk.now).reads in
    let past = c.loop-n.table.past in
    let all = entries_are files (content_of c.args.repos.now) (c.args.begin + 1) (c.args.log.now.len - c.args.begin) ∙ c.loop-n.invariant.loaded told in
    load_unread (base past) files _ past.log c.loop-n.n c.args.log.now.len c.in-Err.cause all (omega (arith, c.loop-n-test.true, c.len-n-end.ensures))
    (here_now (base past) (g.D.Disk.view c.args.disk.now) (g.D.Disk.view c.loop-n.disk) past.log (c.loop-n.n + 1) (Err c.in-Err.cause) (c.loop-n.invariant.quiet told) (c.in-Err.ensures.entry told))

pub loop-n-preserved : goal.loop-n-preserved
loop-n-preserved g c =
    let past = c.loop-n.table.past in
    let e = c.in-Ok-read_entry.entry in
    let items : c.add.new.self.past ≡ record past { log = past.log ++ e ∷ [] } = c.add.ensures.past ∙ ap (λ (p : Past). record p { log = p.log ++ e ∷ [] }) c.prepare.ensures.same in
    let log_is : c.add.new.self.past.log ≡ past.log ++ e ∷ [] = ap (λ (p : Past). p.log) items in
    let begin_is : c.add.new.self.past.begin ≡ past.begin = ap (λ (p : Past). p.begin) items in
    let repos_is = ap (λ (p : Past). p.repos) items in
    record {
      begins = begin_is ∙ c.loop-n.invariant.begins;
      holds = repos_is ∙ c.loop-n.invariant.holds;
      counted = omega (arith, c.loop-n.invariant.counted, begin_is, ap (λ (l : List Entry). length l) log_is, length-append past.log (e ∷ []));
      logged = subst IsLogged (sym items) (logged_push past e c.loop-n.invariant.logged (omega (arith, c.loop-n.invariant.counted, c.in-Ok-read_entry.ensures.next)) c.in-Ok-read_entry.ensures.fit c.in-Ok-read_entry.ensures.typed c.in-Ok-read_entry.ensures.spelled c.in-Ok-read_entry.ensures.built);
      unmoved = c.add.ensures.unmoved (c.prepare.ensures.unmoved c.loop-n.invariant.unmoved);
      numbers = c.max-next.ensures ∙ ap (λ (k : ℕ). max k 1) c.loop-n.invariant.numbers ∙ sym (next_more c.args.first_free past.log c.add.new.self.past.log e c.in-Ok-read_entry.ensures.built log_is);
      later = omega (arith, c.loop-n.invariant.later, c.read_entry.ensures.later);
      faults = c.in-Ok-read_entry.ensures.cause.others (λ is. absurd (cc (is))) ∙ c.loop-n.invariant.faults;
      quiet = λ told. quiet_join _ _ _ (c.loop-n.invariant.quiet told) (c.read_entry.ensures.quiet told);
      loaded = λ told.
          let files = (g.D.Disk.view c.args.disk.now).reads in
          let read = here_now (base past) (g.D.Disk.view c.args.disk.now) (g.D.Disk.view c.loop-n.disk) past.log (c.loop-n.n + 1) (Ok e) (c.loop-n.invariant.quiet told) (c.in-Ok-read_entry.ensures.entry told) in
          load_more (base past) files _ past.log (past.log ++ e ∷ []) e c.loop-n.n c.args.log.now.len (c.loop-n.invariant.loaded told) (omega (arith, c.loop-n-test.true, c.len-n-end.ensures))
          (read_ok (base past) (entry_file (c.loop-n.n + 1)) _ e read) refl
          ∙ ap (λ (p : Past). prepend p.log (read_log files (content p) (c.loop-n.n + 1 + 1) (c.args.log.now.len - (c.loop-n.n + 1)))) (sym items);
    }

pub returns-clause-loads : goal.returns-clause-loads
returns-clause-loads g c told =
    let files = (g.D.Disk.view c.args.disk.now).reads in
    let past = c.loop-n.table.past in
    let all = entries_are files (content_of c.args.repos.now) (c.args.begin + 1) (c.args.log.now.len - c.args.begin) ∙ c.loop-n.invariant.loaded told in
    load_end (base past) files _ past.log c.loop-n.n c.args.log.now.len all (omega (arith, c.loop-n-test.false, c.len-n-end.ensures, c.requires, c.loop-n.auto.n-end (omega (arith, c.requires, c.len-n-end.ensures))))
