use Rattle.std.proofs.Common.{◌≡◌, ◌∙◌, nat_eq, find, List, None, sym, ap, rules, tests}
use Rattle.std.specs.Option.{option_map, option_copied}
use Rattle.std.proofs.lemmas.Iterator.{YieldsList-from_slice}
use Rattle.std.proofs.lemmas.Iterator.Search.{find_from_yields_List}
use Rattle.gt_model.specs.Machine.{Pin}
use Rattle.gt_pins.specs.Live.{pin_of}
use Rattle.gt_pins.specs.declared.live.LivePin.{LivePin}
use Rattle.gt_pins.proofs.LiveLists.{find-map, live_found}
use Rattle.gt_pins.proofs.live.Live.find.Goals as goal

pub returns : goal.returns
returns c =
    let test : LivePin → _ = λ (p : LivePin). nat_eq p.number c.args.number in
    let found : option_copied c.find.result ≡ find test c.self.inside.pins.items =
    find_from_yields_List test _ _ c.find.result c.find.ensures.ran (YieldsList-from_slice c.self.inside.pins.items cc) (λ x b q k. search (rules, tests)) in
    let is : find (λ (p : Pin). nat_eq p.number c.args.number) c.args.self.now ≡ option_map pin_of (option_copied c.find.result) =
    ap (λ (pins : List Pin). find (λ p. nat_eq p.number c.args.number) pins) (sym c.self.view_is)
    ∙ find-map pin_of (λ (p : Pin). nat_eq p.number c.args.number) c.self.inside.pins.items
    ∙ ap (option_map pin_of) (sym found) in
    is ∙ ap (λ o. option_map pin_of (option_copied o)) c.in-Some.is

pub unreachable-requires : goal.unreachable-requires
unreachable-requires c =
    let test : LivePin → _ = λ (p : LivePin). nat_eq p.number c.args.number in
    let found : option_copied c.find.result ≡ find test c.self.inside.pins.items =
    find_from_yields_List test _ _ c.find.result c.find.ensures.ran (YieldsList-from_slice c.self.inside.pins.items cc) (λ x b q k. search (rules, tests)) in
    let none : find (λ (p : Pin). nat_eq p.number c.args.number) c.args.self.now ≡ None =
    ap (λ (pins : List Pin). find (λ p. nat_eq p.number c.args.number) pins) (sym c.self.view_is)
    ∙ find-map pin_of (λ (p : Pin). nat_eq p.number c.args.number) c.self.inside.pins.items
    ∙ ap (option_map pin_of) (sym found)
    ∙ ap (λ o. option_map pin_of (option_copied o)) c.in-None.is in
    live_found c.args.self.now c.args.number c.requires none
