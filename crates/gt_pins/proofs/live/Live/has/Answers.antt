use Rattle.std.proofs.Common.{◌∙◌, nat_eq, List, sym, ap, rules, tests}
use Rattle.std.proofs.lemmas.Iterator.{YieldsList-from_slice}
use Rattle.std.proofs.lemmas.Iterator.Search.{any_from_yields_List}
use Rattle.gt_model.specs.Machine.{Pin, is_live}
use Rattle.gt_pins.specs.Live.{pin_of}
use Rattle.gt_pins.specs.declared.live.LivePin.{LivePin}
use Rattle.gt_pins.proofs.LiveLists.{list_any-map}
use Rattle.gt_pins.proofs.live.Live.has.Goals as goal

pub returns : goal.returns
returns c =
    let test : LivePin → _ = λ (p : LivePin). nat_eq p.number c.args.number in
    any_from_yields_List test _ _ c.any.result c.any.ensures.ran (YieldsList-from_slice c.self.inside.pins.items cc) (λ x b q k. search (rules, tests))
    ∙ sym (list_any-map pin_of (λ (p : Pin). nat_eq p.number c.args.number) c.self.inside.pins.items)
    ∙ ap (λ (pins : List Pin). is_live pins c.args.number) c.self.view_is
