use Rattle.std.specs.Int.{w32, to_be_bytes}
use Rattle.std.proofs.Common.{length}
use Rattle.gt_entry.specs.Fits.{IsName}
use Rattle.gt_entry.specs.Spelling.{same}
use Rattle.gt_entry.proofs.PutLemmas.{one_more, all_more}
use Rattle.gt_entry.proofs.names.put_names.Goals as goal

pub names-preserved : goal.names-preserved
names-preserved c = record {
  spelled = one_more c.args.names.now c.names.name-index c.name-item.result c.names-test.true c.name-item.is same c.args.out.now.items (to_be_bytes w32 (length c.args.names.now)) c.names.out.items c.put.new.out.items c.names.invariant.spelled c.in_ok-put.ensures.ok;
  typed = all_more c.args.names.now c.names.name-index c.name-item.result c.names-test.true c.name-item.is IsName c.names.invariant.typed c.law_name.ensures.long;
}
