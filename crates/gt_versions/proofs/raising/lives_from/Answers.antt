use Rattle.std.proofs.Common.{◌-◌, ◌∷◌, [], false, slice_index_or, cond, refl, ap}
use Rattle.gt_versions.specs.Raised.{kept_life}
use Rattle.gt_versions.proofs.RaisedLaws.{none_kept, last_dropped, last_kept}
use Rattle.gt_versions.proofs.raising.lives_from.Goals as goal

pub returns-then-count-eq0-clause-items : goal.returns-then-count-eq0-clause-items
returns-then-count-eq0-clause-items c =
    none_kept c.args.items.now c.args.to c.count_up_to-count.result c.count_up_to-count.ensures.bound c.count_up_to-count.ensures.parts
    kept_life refl c.if-count-eq0.true

pub returns-then-items-count-clause-items : goal.returns-then-items-count-clause-items
returns-then-items-count-clause-items c =
    let e = slice_index_or c.args.items.now (c.count_up_to-count.result - 1) (0, false) in
    last_kept c.args.items.now c.args.to c.count_up_to-count.result c.count_up_to-count.ensures.bound c.count_up_to-count.ensures.parts
    kept_life c.if-count-eq0.false e (0, false) refl (ap (λ b. cond b (e ∷ []) []) c.if-items-count.true)

pub returns-else-items-count-clause-items : goal.returns-else-items-count-clause-items
returns-else-items-count-clause-items c =
    let e = slice_index_or c.args.items.now (c.count_up_to-count.result - 1) (0, false) in
    last_dropped c.args.items.now c.args.to c.count_up_to-count.result c.count_up_to-count.ensures.bound c.count_up_to-count.ensures.parts
    kept_life c.if-count-eq0.false e (0, false) refl (ap (λ b. cond b (e ∷ []) []) c.if-items-count.false)
