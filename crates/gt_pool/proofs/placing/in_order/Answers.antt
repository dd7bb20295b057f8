use Rattle.std.proofs.Common.{◌≡◌, ◌∙◌, ℕ, ◌<◌, length, ap, arith, subst, sym}
use Rattle.std.proofs.lemmas.List.{length-replicate}
use Rattle.std.specs.List.{AllByRecursion}
use Rattle.gt_pool.proofs.PlaceLemmas.{all_inside, all_in_order}
use Rattle.gt_pool.proofs.placing.in_order.Goals as goal

pub place-requires-clause-inside : goal.place-requires-clause-inside
place-requires-clause-inside g c =
    let len : length c.in_ok-slots.slots.items ≡ c.args.count = ap length c.in_ok-slots.ensures ∙ length-replicate c.args.count _ in
    λ κs within. subst (λ (n : ℕ). AllByRecursion (λ x. x.index < n) c.args.all) (sym len) (all_inside c.args.count c.args.all (λ x. let e = c.requires.once x in omega (arith, e)))

pub returns : goal.returns
returns g c =
    let len : length c.in_ok-slots.slots.items ≡ c.args.count = ap length c.in_ok-slots.ensures ∙ length-replicate c.args.count _ in
    all_in_order (g.W.Work.gives c.args.work.now) c.args.count c.place.new.slots.items c.unwrapped.result c.unwrapped.ensures (c.place.ensures.len ∙ len) c.place.ensures.filled
