use Rattle.std.proofs.Common.{◌≡◌, ◌∙◌, ℕ, ◌+◌, List, length, Result, Ok, Err, IfOk, ap, arith}
use Rattle.gt_model.specs.Jobs.{ArePruneUnits}
use Rattle.gt_plain_jobs.specs.Marking.{Pairs, own_names, kept}
use Rattle.gt_plain_jobs.proofs.Pruning.{are_units}
use Rattle.gt_plain_jobs.proofs.prunes.prune_units.Goals as goal

where_ok : {A E : Type 0} (P Q : A → Type 0) → ((x : A) → P x → Q x) → (r : Result A E) → IfOk r P → IfOk r Q
where_ok P Q f (Ok x) h = f x h
where_ok P Q f (Err e) h = tt

pub returns : goal.returns
returns c =
    let same : c.in_ok-kept.kept.items ≡ kept c.in_ok-pairs.pairs.items (own_names c.args.content.now c.args.path.now) =
    c.in_ok-kept.ensures
    ∙ ap (λ (pairs : Pairs). kept pairs c.deref-2.result.now) c.deref.ensures.value
    ∙ ap (λ (names : List (List ℕ)). kept c.in_ok-pairs.pairs.items names) (c.deref-2.ensures.value ∙ c.in_ok-names.ensures) in
    let long : length c.in_ok-kept.kept.items ≡ length (kept c.in_ok-pairs.pairs.items (own_names c.args.content.now c.args.path.now)) = ap (λ (names : List (List ℕ)). length names) same in
    where_ok (λ n. n ≡ c.len.result + c.len-2.result) (λ units. ArePruneUnits c.args.content.now c.args.path.now units)
    (λ n is. are_units c.args.content.now c.args.path.now c.in_ok-pairs.pairs.items c.in_ok-pairs.ensures n (let sum : n ≡ length c.in_ok-pairs.pairs.items + length (kept c.in_ok-pairs.pairs.items (own_names c.args.content.now c.args.path.now)) = omega arith in sum))
    c.sum.result c.sum.ensures
