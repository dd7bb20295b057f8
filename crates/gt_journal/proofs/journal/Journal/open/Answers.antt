use Rattle.std.proofs.Common.{◌≡◌, ◌∙◌, ℕ, Option, ap, sym, subst}
use Rattle.gt_disk.specs.Files.{Files, IsImage, now, still}
use Rattle.gt_disk.specs.Kinds.{gate_file, turn_file}
use Rattle.gt_disk.specs.Moments.{Lasting}
use Rattle.gt_disk.proofs.Steps.{runs_now}
use Rattle.gt_log.specs.Log.{content_length}
use Rattle.gt_history.proofs.Runs.{good_end}
use Rattle.gt_base.specs.Recovery.{recovery, recover, Keeps, counters}
use Rattle.gt_reading.specs.Reading.{run}
use Rattle.gt_manifest.specs.declared.manifest.Manifest.{Manifest}
use Rattle.gt_journal.specs.Ledger.{HasNext}
use Rattle.gt_journal.proofs.Good.{good_beside}
use Rattle.gt_journal.proofs.Opened.{Opened, below_later, good_open, good_opened, narrows_join, is_opened}
use Rattle.gt_journal.proofs.journal.Journal.open.Goals as goal

pub returns-in_default-clause-good : goal.returns-in_default-clause-good
returns-in_default-clause-good g c told = good_beside c.args.limits.now _ _ (c.mount.ensures.run told) (c.mount.ensures.narrows told)

pub returns-in_default-clause-good_end : goal.returns-in_default-clause-good_end
returns-in_default-clause-good_end g c told good = good_end (recover c.args.limits.now) (Keeps c.args.limits.now) counters _ _ good (good_beside c.args.limits.now _ _ (c.mount.ensures.run told) (c.mount.ensures.narrows told) good)

pub returns-in-Ok-load-clause-moments : goal.returns-in-Ok-load-clause-moments
returns-in-Ok-load-clause-moments g c told = narrows_join _ _ _ (c.mount.ensures.narrows told) (c.load.ensures.moments told)

pub returns-in-Err-clause-moments : goal.returns-in-Err-clause-moments
returns-in-Err-clause-moments g c told = narrows_join _ _ _ (c.mount.ensures.narrows told) (c.load.ensures.moments told)

pub returns-in-Ok-load-clause-good : goal.returns-in-Ok-load-clause-good
returns-in-Ok-load-clause-good g c told = good_open c.args.limits.now _ _ _ (c.mount.ensures.run told) (c.mount.ensures.narrows told) (c.load.ensures.run told) (c.load.ensures.moments told)

pub returns-in-Err-clause-good : goal.returns-in-Err-clause-good
returns-in-Err-clause-good g c told = good_open c.args.limits.now _ _ _ (c.mount.ensures.run told) (c.mount.ensures.narrows told) (c.load.ensures.run told) (c.load.ensures.moments told)

pub returns-in-Ok-load-clause-good_end : goal.returns-in-Ok-load-clause-good_end
returns-in-Ok-load-clause-good_end g c told = good_opened c.args.limits.now _ _ _ (c.mount.ensures.run told) (c.mount.ensures.narrows told) (c.load.ensures.run told) (c.load.ensures.moments told)

pub returns-in-Err-clause-good_end : goal.returns-in-Err-clause-good_end
returns-in-Err-clause-good_end g c told = good_opened c.args.limits.now _ _ _ (c.mount.ensures.run told) (c.mount.ensures.narrows told) (c.load.ensures.run told) (c.load.ensures.moments told)

pub returns-in-Ok-load-clause-stored : goal.returns-in-Ok-load-clause-stored
returns-in-Ok-load-clause-stored g c told good =
    let v = g.D.Disk.view c.args.disk.now in
    let w = g.D.Disk.view c.mount.new.disk in
    let x = g.D.Disk.view c.load.new.disk in
    let reads = c.mount.ensures.reads told in
    let reads_end : x.reads ≡ v.reads = c.load.ensures.reads told ∙ reads in
    let shows = g.met.D.Disk.shows c.args.disk.now told in
    let shows_end = subst (λ (r : Files). IsImage (now x) r) reads_end (g.met.D.Disk.shows c.load.new.disk told) in
    let later = good_opened c.args.limits.now v w x (c.mount.ensures.run told) (c.mount.ensures.narrows told) (c.load.ensures.run told) (c.load.ensures.moments told) good in
    let len = c.in-Ok.ensures.len told ∙ sym (ap (λ (r : Files). content_length (r gate_file)) reads) in
    let is = ap (λ (r : Files). run r (recovery c.args.limits.now)) (sym reads) ∙ c.in-Ok-load.ensures.loads told len in
    let turn = c.in-Ok-load.ensures.turn told ∙ ap (λ (r : Files). still (r turn_file)) reads in
    let o = is_opened c.args.limits.now v w x _ shows shows_end good later is (λ first entries recovers keeps. (c.in-Ok.ensures.stands told first entries recovers keeps).1) (runs_now turn_file (Lasting (now w turn_file) (w.reads turn_file)) w x (c.load.ensures.run told)) turn c.in-Ok-load.ensures.carried.fits in
    let begin = sym c.in-Ok-load.ensures.begin in
    let opened = subst (λ (n : ℕ). Opened c.args.limits.now n c.in-Ok-load.base.manifest c.in-Ok-load.table.past (now x)) begin (o.stored, o.sound, o.packs) in
    let numbers = c.in-Ok-load.ensures.carried.numbers in (
      opened.0,
      opened.1,
      record {
        packs = opened.2;
        below = below_later c.in-Ok-load.base.manifest.next c.in-Ok-load.next c.in-Ok-load.table.past.repos numbers o.below;
        manifest = o.manifest;
        doubt = subst (λ (d : Option Manifest). HasNext c.in-Ok-load.base.manifest.epoch d (now x)) (sym c.in-Ok-load.ensures.settled) tt;
      },
    )
