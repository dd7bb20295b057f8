use Rattle.std.proofs.Common.{◌≡◌, ◌∙◌, nat_eq, find, List, None, sym, ap}
use Rattle.std.specs.Option.{option_copied}
use Rattle.gt_model.specs.Machine.{Pin}
use Rattle.gt_plain_machine.proofs.LivePins.{live_found}
use Rattle.gt_plain_machine.proofs.state.PlainState.pin.Goals as goal

pub unreachable-requires : goal.unreachable-requires
unreachable-requires c =
    let none : find (λ (p : Pin). nat_eq p.number c.args.number) c.args.self.now.pins ≡ None =
    ap (λ (pins : List Pin). find (λ p. nat_eq p.number c.args.number) pins) (sym c.as_slice.ensures) ∙ sym c.first_of.ensures ∙ ap option_copied c.in-None.is in
    live_found c.args.self.now.pins c.args.number c.requires none
