use Rattle.std.proofs.Common.{◌≡◌, ◌∙◌, nat_eq, not, filter, map, List, sym, ap, rules, tests}
use Rattle.std.proofs.lemmas.Fn.{filter_same}
use Rattle.gt_model.specs.Machine.{Pin, released}
use Rattle.gt_pins.specs.Live.{pin_of}
use Rattle.gt_pins.specs.declared.live.LivePin.{LivePin}
use Rattle.gt_pins.proofs.LiveLists.{filter-map}
use Rattle.gt_pins.proofs.live.Live.drop_number.Goals as goal

pub returns : goal.returns
returns c =
    let test : LivePin → _ = λ (p : LivePin). not (nat_eq p.number c.args.number) in
    let kept : c.retain.new.self.items ≡ filter test c.self.inside.pins.items =
    filter_same _ test _ (λ x b q k. search (rules, tests)) _ _ c.retain.ensures.filtered in
    ap (map pin_of) kept
    ∙ sym (filter-map pin_of (λ (p : Pin). not (nat_eq p.number c.args.number)) c.self.inside.pins.items)
    ∙ ap (λ (pins : List Pin). released pins c.args.number) c.self.view_is
