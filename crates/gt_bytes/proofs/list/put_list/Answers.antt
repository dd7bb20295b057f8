use Rattle.std.proofs.lemmas.Result.{err_from_is_err_and}
use Rattle.gt_bytes.proofs.Fronts.{front_of}
use Rattle.gt_bytes.proofs.list.put_list.Goals as goal

pub returns-in_err-put-clause-err : goal.returns-in_err-put-clause-err
returns-in_err-put-clause-err g c =
    let p = err_from_is_err_and c.from_residual-in_err-put.result c.from_residual-in_err-put.ensures.1 in
    let h = rw c.items.invariant at c.in_err-put.ensures.err in
    rw p.1 (front_of _ _ _ h)
