use Rattle.std.proofs.lemmas.Result.{err_from_is_err_and}
use Rattle.gt_bytes.specs.Reading.{counted_at}
use Rattle.gt_bytes.proofs.Loops.{many_step, many_fails}
use Rattle.gt_entry.specs.Reading.{added_at}
use Rattle.gt_entry.proofs.records.read_records.Goals as goal

pub returns-in_err-item-clause-value : goal.returns-in_err-item-clause-value
returns-in_err-item-clause-value c =
    let p = err_from_is_err_and c.from_residual-in_err-item.result c.from_residual-in_err-item.ensures.1 in
    let h = rw c.as_slice.ensures at c.in_err-item.ensures.value in
    rw (p.1, p.2) (many_fails c.in_err-item.field-0.0 (added_at c.args.bytes.now) c.in_ok-count.count c.items.counter c.items.items c.items.at (counted_at (added_at c.args.bytes.now) c.args.bytes.now c.args.from) c.items-test.true h c.items.invariant.so_far)

pub items-preserved : goal.items-preserved
items-preserved c =
    let h = rw c.as_slice.ensures at c.in_ok-item.ensures.value in
    record {
      within = c.in_ok-item.ensures.within;
      so_far = rw c.in_ok-push.ensures.ok (many_step (added_at c.args.bytes.now) c.in_ok-count.count c.items.counter c.items.items c.items.at (c.in_ok-item.item, c.in_ok-item.next) (counted_at (added_at c.args.bytes.now) c.args.bytes.now c.args.from) c.items-test.true h c.items.invariant.so_far);
    }
