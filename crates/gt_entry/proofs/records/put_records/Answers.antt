use Rattle.std.specs.Int.{w32, to_be_bytes}
use Rattle.std.proofs.Common.{length}
use Rattle.gt_entry.specs.Fits.{IsAdded}
use Rattle.gt_entry.specs.Spelling.{item}
use Rattle.gt_entry.proofs.PutLemmas.{one_more, all_more}
use Rattle.gt_entry.proofs.records.put_records.Goals as goal

pub records-preserved : goal.records-preserved
records-preserved c = record {
  spelled = one_more c.args.records.now c.records.it-index c.it-item.result c.records-test.true c.it-item.is item c.args.out.now.items (to_be_bytes w32 (length c.args.records.now)) c.records.out.items c.put_added.new.out.items c.records.invariant.spelled c.in_ok-put_added.ensures.spelled;
  typed = all_more c.args.records.now c.records.it-index c.it-item.result c.records-test.true c.it-item.is IsAdded c.records.invariant.typed c.in_ok-put_added.ensures.typed;
}
