use Rattle.std.proofs.Common.{refl}
use Rattle.gt_part.proofs.Histories.{opened_stands, first_run}
use Rattle.gt_part.proofs.partition.Partition.mount.Goals as goal

pub returns-in-Ok-all_refs-clause-answer : goal.returns-in-Ok-all_refs-clause-answer
returns-in-Ok-all_refs-clause-answer g c told =
    let opened = c.in-Ok.ensures.answer told in
    (_, opened.0, opened_stands c.in-Ok.journal _ (record { clear = opened.1; flat = c.in-Ok.ensures.flat; unapplied = c.in-Ok.ensures.unapplied; whole = c.in-Ok.ensures.whole; numbered = c.in-Ok.ensures.numbered }) c.new.ensures)

pub returns-in-Ok-all_refs-clause-run : goal.returns-in-Ok-all_refs-clause-run
returns-in-Ok-all_refs-clause-run g c told good =
    let opened = c.in-Ok.ensures.answer told in
    let there = c.in-Ok.ensures.stored told good in
    (refl, first_run c.args.limits _ c.in-Ok.journal _ _ (record { clear = opened.1; flat = c.in-Ok.ensures.flat; unapplied = c.in-Ok.ensures.unapplied; whole = c.in-Ok.ensures.whole; numbered = c.in-Ok.ensures.numbered }) c.new.ensures c.new-in-Ok-all_refs.ensures there.0 there.1, there.2)

pub returns-in-Ok-all_refs-clause-opened : goal.returns-in-Ok-all_refs-clause-opened
returns-in-Ok-all_refs-clause-opened g c = opened_stands c.in-Ok.journal _ (record { clear = c.in-Ok.ensures.settled; flat = c.in-Ok.ensures.flat; unapplied = c.in-Ok.ensures.unapplied; whole = c.in-Ok.ensures.whole; numbered = c.in-Ok.ensures.numbered }) c.new.ensures
