use Rattle.std.specs.Int.{w32, to_be_bytes}
use Rattle.std.proofs.Common.{length}
use Rattle.gt_entry.specs.Fits.{IsUpdate}
use Rattle.gt_entry.specs.Spelling.{update}
use Rattle.gt_entry.proofs.PutLemmas.{one_more, all_more}
use Rattle.gt_entry.proofs.refs.put_refs.Goals as goal

pub refs-preserved : goal.refs-preserved
refs-preserved c = record {
  spelled = one_more c.args.refs.now c.refs.it-index c.it-item.result c.refs-test.true c.it-item.is (update c.args.version) c.args.out.now.items (to_be_bytes w32 (length c.args.refs.now)) c.refs.out.items c.put_update.new.out.items c.refs.invariant.spelled c.in_ok-put_update.ensures.spelled;
  typed = all_more c.args.refs.now c.refs.it-index c.it-item.result c.refs-test.true c.it-item.is IsUpdate c.refs.invariant.typed c.in_ok-put_update.ensures.typed;
}
