use Rattle.std.proofs.Common.{◌≡◌, ℕ, List, Option, Some, None, IsSome, refl, sym}
use Rattle.std.proofs.lemmas.Result.{err_from_is_err_and}
use Rattle.gt_manifest.proofs.LooseLemmas.{none_is, cut_is, some_is, may_be}
use Rattle.gt_manifest.proofs.items.LooseRefsItem.read.Goals as goal

some_of : (o : Option (List ℕ)) (t : List ℕ) → o ≡ Some t → IsSome o
some_of None t e = absurd cc
some_of (Some x) t e = refl

pub returns-in_err-file-in-Ok-Some-clause-value : goal.returns-in_err-file-in-Ok-Some-clause-value
returns-in_err-file-in-Ok-Some-clause-value c =
    let p = err_from_is_err_and c.from_residual-in_err-file-in-Ok-Some.result c.from_residual-in_err-file-in-Ok-Some.ensures.1 in
    let h = rw c.in-Ok-Some.field-0-is at c.in-Ok-Some.ensures.found in
    rw (p.1, p.2) (cut_is c.args.bytes.now c.args.before.now c.args.at _ c.in_ok-begin.after c.in_ok-begin.ensures.value _ (some_of _ _ (sym h)) c.in_err-file-in-Ok-Some.ensures.value)

pub returns-in_err-file-in-Err-clause-value : goal.returns-in_err-file-in-Err-clause-value
returns-in_err-file-in-Err-clause-value c =
    let p = err_from_is_err_and c.from_residual-in_err-file-in-Err.result c.from_residual-in_err-file-in-Err.ensures.1 in
    rw (p.1, p.2) (cut_is c.args.bytes.now c.args.before.now c.args.at _ c.in_ok-begin.after c.in_ok-begin.ensures.value _ c.in-Err.ensures.memory c.in_err-file-in-Err.ensures.value)

pub returns-in-Ok-None-clause-value : goal.returns-in-Ok-None-clause-value
returns-in-Ok-None-clause-value c =
    let h = rw c.in-Ok-None.field-0-is at c.in-Ok-None.ensures.found in
    none_is c.args.bytes.now c.args.before.now c.args.at _ c.in_ok-begin.after c.in_ok-begin.ensures.value (sym h)

pub returns-in_ok-file-in-Ok-Some-clause-value : goal.returns-in_ok-file-in-Ok-Some-clause-value
returns-in_ok-file-in-Ok-Some-clause-value c =
    let h = rw c.in-Ok-Some.field-0-is at c.in-Ok-Some.ensures.found in
    some_is c.args.bytes.now c.args.before.now c.args.at _ c.in_ok-begin.after c.in_ok-begin.ensures.value _ _ (sym h) c.in_ok-file-in-Ok-Some.ensures.value

pub returns-in_ok-file-in-Err-clause-memory : goal.returns-in_ok-file-in-Err-clause-memory
returns-in_ok-file-in-Err-clause-memory c = λ is. may_be c.args.bytes.now c.args.before.now c.args.at _ c.in_ok-begin.after c.in_ok-begin.ensures.value _ c.in-Err.ensures.memory c.in_ok-file-in-Err.ensures.value
