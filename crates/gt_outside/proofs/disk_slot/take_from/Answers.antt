use Rattle.std.proofs.Common.{◌≡◌, Some, get_or, sym, ◌∙◌, arith, subst, ℕ}
use Rattle.gt_outside.proofs.PlacesLemmas.{takes-set}
use Rattle.gt_outside.proofs.disk_slot.take_from.Goals as goal

pub returns-clause-some : goal.returns-clause-some
returns-clause-some c =
    let before = c.index_mut-place.result.now in
    let stood : before ≡ get_or c.args.places.now.items c.args.number before = subst (λ (j : ℕ). before ≡ get_or c.args.places.now.items j before) c.from-index.ensures c.index_mut-place.ensures.value in
    let here : before.disk ≡ Some c.in_ok-disk.disk = sym c.take.ensures.value ∙ c.in_ok-disk.was in
    takes-set c.args.places.now.items _ _ before _ c.in_ok-disk.disk c.from-index.ensures (omega (arith, c.args.places.now.ok.0)) stood here c.take.ensures.after c.of.ensures
