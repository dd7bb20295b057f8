use Rattle.std.proofs.Common.{◌∷◌, [], length-append, refl, sym, ◌∙◌, arith}
use Rattle.std.proofs.lemmas.Result.{err_from_is_err_and}
use Rattle.gt_bytes.specs.Reading.{counted_at}
use Rattle.gt_manifest.specs.Reading.{repo_at}
use Rattle.gt_bytes.proofs.Loops.{many_step, many_fails}
use Rattle.gt_manifest.proofs.FirstLemmas.{path_of_repo, first_read, first_step}
use Rattle.gt_manifest.proofs.reading.read_repos.Goals as goal

pub returns-in_err-item-clause-value : goal.returns-in_err-item-clause-value
returns-in_err-item-clause-value c =
    let p = err_from_is_err_and c.from_residual-in_err-item.result c.from_residual-in_err-item.ensures.1 in
    let h = rw c.as_slice.ensures at c.in_err-item.ensures.value in
    rw (p.1, p.2) (many_fails c.in_err-item.field-0.0 (repo_at c.args.version c.args.applied c.args.bytes.now) c.in_ok-count.count c.items.counter c.items.items c.items.at (counted_at (repo_at c.args.version c.args.applied c.args.bytes.now) c.args.bytes.now c.args.from) c.items-test.true h c.items.invariant.so_far)

pub items-preserved : goal.items-preserved
items-preserved c =
    let h = rw c.as_slice.ensures at c.in_ok-item.ensures.value in
    record {
      within = c.in_ok-item.ensures.within;
      so_far = rw c.in_ok-push.ensures.ok (many_step (repo_at c.args.version c.args.applied c.args.bytes.now) c.in_ok-count.count c.items.counter c.items.items c.items.at (c.in_ok-item.item, c.in_ok-item.next) (counted_at (repo_at c.args.version c.args.applied c.args.bytes.now) c.args.bytes.now c.args.from) c.items-test.true h c.items.invariant.so_far);
      long = rw c.in_ok-push.ensures.ok (omega (arith, length-append c.items.items (c.in_ok-item.item ∷ []), c.items.invariant.long));
      first = first_step c.args.bytes.now c.args.from c.in_ok-count.begin c.items.counter c.in_ok-item.next (first_read c.args.bytes.now c.args.from c.in_ok-count.count c.in_ok-count.begin c.items.counter c.items.at c.in_ok-count.ensures.value c.items-test.true c.items.invariant.first (path_of_repo c.args.version c.args.applied c.args.bytes.now c.items.items c.items.at (rw h refl)));
    }

pub returns-in_err-item-clause-memory : goal.returns-in_err-item-clause-memory
returns-in_err-item-clause-memory c =
    let p = err_from_is_err_and c.from_residual-in_err-item.result c.from_residual-in_err-item.ensures.1 in
    let h = c.in_err-item.ensures.memory in
    rw p.1 (λ is. first_read c.args.bytes.now c.args.from c.in_ok-count.count c.in_ok-count.begin c.items.counter c.items.at c.in_ok-count.ensures.value c.items-test.true c.items.invariant.first (h (sym p.2 ∙ is)))

pub returns-in_err-push-clause-memory : goal.returns-in_err-push-clause-memory
returns-in_err-push-clause-memory c =
    let p = err_from_is_err_and c.from_residual-in_err-push.result c.from_residual-in_err-push.ensures.1 in
    let h = rw c.as_slice.ensures at c.in_ok-item.ensures.value in
    rw p.1 (λ is. first_read c.args.bytes.now c.args.from c.in_ok-count.count c.in_ok-count.begin c.items.counter c.items.at c.in_ok-count.ensures.value c.items-test.true c.items.invariant.first (path_of_repo c.args.version c.args.applied c.args.bytes.now c.items.items c.items.at (rw h refl)))
