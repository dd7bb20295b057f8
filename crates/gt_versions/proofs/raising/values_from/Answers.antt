use Rattle.std.proofs.Common.{◌∷◌, [], cond, refl, ap, sym, ◌∙◌}
use Rattle.gt_versions.specs.Raised.{kept_value}
use Rattle.gt_versions.proofs.RaisedLaws.{none_kept, last_dropped, last_kept}
use Rattle.gt_versions.proofs.raising.values_from.Goals as goal

pub returns-then-count-eq0-clause-items : goal.returns-then-count-eq0-clause-items
returns-then-count-eq0-clause-items g c =
    none_kept c.args.items.now c.args.to c.count_up_to-count.result c.count_up_to-count.ensures.bound c.count_up_to-count.ensures.parts
    (kept_value c.args.start) refl c.if-count-eq0.true

pub returns-then-counts-clause-items : goal.returns-then-counts-clause-items
returns-then-counts-clause-items g c =
    let e = c.index-items-count.result in
    last_kept c.args.items.now c.args.to c.count_up_to-count.result c.count_up_to-count.ensures.bound c.count_up_to-count.ensures.parts
    (kept_value c.args.start) c.if-count-eq0.false e e c.index-items-count.is (ap (λ b. cond b (e ∷ []) []) (sym c.counts.ensures ∙ c.if-counts.true))

pub returns-else-counts-clause-items : goal.returns-else-counts-clause-items
returns-else-counts-clause-items g c =
    let e = c.index-items-count.result in
    last_dropped c.args.items.now c.args.to c.count_up_to-count.result c.count_up_to-count.ensures.bound c.count_up_to-count.ensures.parts
    (kept_value c.args.start) c.if-count-eq0.false e e c.index-items-count.is (ap (λ b. cond b (e ∷ []) []) (sym c.counts.ensures ∙ c.if-counts.false))
