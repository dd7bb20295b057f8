use Rattle.std.proofs.Common.{refl, sym, ◌∙◌}
use Rattle.std.proofs.lemmas.Result.{err_from_is_err_and}
use Rattle.gt_bytes.specs.Reading.{counted_at}
use Rattle.gt_pack.specs.Reading.{placed_at}
use Rattle.gt_bytes.proofs.Loops.{many_step, many_fails, first_read, first_step}
use Rattle.gt_pack.proofs.reading.read_counted.Goals as goal

pub returns-in_err-item-clause-value : goal.returns-in_err-item-clause-value
returns-in_err-item-clause-value c =
    let p = err_from_is_err_and c.from_residual-in_err-item.result c.from_residual-in_err-item.ensures.1 in
    let h = rw c.as_slice.ensures at c.in_err-item.ensures.value in
    rw (p.1, p.2) (many_fails c.in_err-item.field-0.0 (placed_at c.args.bytes.now) c.in_ok-count.count c.items.counter c.items.items c.items.at (counted_at (placed_at c.args.bytes.now) c.args.bytes.now c.args.from) c.items-test.true h c.items.invariant.so_far)

pub items-preserved : goal.items-preserved
items-preserved c =
    let h = rw c.as_slice.ensures at c.in_ok-item.ensures.value in
    record {
      within = c.in_ok-item.ensures.within;
      so_far = rw c.in_ok-push.ensures.ok (many_step (placed_at c.args.bytes.now) c.in_ok-count.count c.items.counter c.items.items c.items.at (c.in_ok-item.item, c.in_ok-item.next) (counted_at (placed_at c.args.bytes.now) c.args.bytes.now c.args.from) c.items-test.true h c.items.invariant.so_far);
      first = first_step (placed_at c.args.bytes.now) c.args.bytes.now c.args.from c.in_ok-count.begin c.items.counter _ c.in_ok-item.next (first_read (placed_at c.args.bytes.now) c.args.bytes.now c.args.from c.in_ok-count.count c.in_ok-count.begin c.items.counter c.items.items c.items.at c.in_ok-count.ensures.value c.items-test.true c.items.invariant.first (rw h refl));
    }

pub returns-in_err-item-clause-memory : goal.returns-in_err-item-clause-memory
returns-in_err-item-clause-memory c =
    let p = err_from_is_err_and c.from_residual-in_err-item.result c.from_residual-in_err-item.ensures.1 in
    let h = rw c.as_slice.ensures at c.in_err-item.ensures.memory in
    rw p.1 (λ is. first_read (placed_at c.args.bytes.now) c.args.bytes.now c.args.from c.in_ok-count.count c.in_ok-count.begin c.items.counter c.items.items c.items.at c.in_ok-count.ensures.value c.items-test.true c.items.invariant.first (h (sym p.2 ∙ is)))

pub returns-in_err-push-clause-memory : goal.returns-in_err-push-clause-memory
returns-in_err-push-clause-memory c =
    let p = err_from_is_err_and c.from_residual-in_err-push.result c.from_residual-in_err-push.ensures.1 in
    let h = rw c.as_slice.ensures at c.in_ok-item.ensures.value in
    rw p.1 (λ is. first_read (placed_at c.args.bytes.now) c.args.bytes.now c.args.from c.in_ok-count.count c.in_ok-count.begin c.items.counter c.items.items c.items.at c.in_ok-count.ensures.value c.items-test.true c.items.invariant.first (rw h refl))
