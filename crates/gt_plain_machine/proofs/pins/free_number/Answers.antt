use Rattle.std.proofs.Common.{sym, ◌∙◌}
use Rattle.gt_plain_machine.proofs.LivePins.{free_here, free_later, free_last}
use Rattle.gt_plain_machine.proofs.pins.free_number.Goals as goal

pub returns-then-not-is_live : goal.returns-then-not-is_live
returns-then-not-is_live c = free_here c.args.pins.now c.loop-pin.number c.loop-pin._pin-index c.loop-pin.invariant c.loop-pin-test.true (sym c.is_live.ensures ∙ c.if-not-is_live.true)

pub loop-pin-preserved : goal.loop-pin-preserved
loop-pin-preserved c =
    free_later c.args.pins.now c.loop-pin.number c.loop-pin._pin-index c.loop-pin.invariant c.in-Some.next c.in-Some.ensures.1 c.loop-pin-test.true (sym c.is_live.ensures ∙ c.if-not-is_live.false)

pub returns : goal.returns
returns c = free_last c.args.pins.now c.loop-pin.number c.loop-pin._pin-index c.loop-pin.invariant c.loop-pin-test.false
