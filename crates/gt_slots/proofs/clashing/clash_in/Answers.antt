use Rattle.std.proofs.Common.{◌++◌, codes, ap, sym, ◌∙◌}
use Rattle.std.specs.Option.{option_or}
use Rattle.gt_slots.specs.Pages.{rest}
use Rattle.gt_slots.specs.Clashing.{seek, sought}
use Rattle.gt_slots.proofs.ClashLaws.{clash_is}
use Rattle.gt_slots.proofs.clashing.clash_in.Goals as goal

pub returns-in-Some : goal.returns-in-Some
returns-in-Some c =
    ap (λ o. option_or o (sought (seek c.args.start c.args.position c.args.gone.now (c.args.name.now ++ codes "/") (rest c.args.pages.now c.find_place-place.result.page c.find_place-place.result.slot)))) c.in-Some.ensures
    ∙ sym (clash_is c.args.start c.args.position c.args.gone.now c.args.name.now c.args.pages.now c.find_place-place.result.page c.find_place-place.result.slot c.requires c.find_place-place.ensures)

pub returns-in-None : goal.returns-in-None
returns-in-None c =
    c.inside_from.ensures
    ∙ ap (λ o. option_or o (sought (seek c.args.start c.args.position c.args.gone.now (c.args.name.now ++ codes "/") (rest c.args.pages.now c.find_place-place.result.page c.find_place-place.result.slot)))) c.in-None.ensures
    ∙ sym (clash_is c.args.start c.args.position c.args.gone.now c.args.name.now c.args.pages.now c.find_place-place.result.page c.find_place-place.result.slot c.requires c.find_place-place.ensures)
