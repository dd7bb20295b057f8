use Rattle.std.proofs.Common.{◌≡◌, ◌∙◌, ◌-◌, ◌+◌, false, true, ap, sym, arith}
use Rattle.gt_model.specs.Machine.{free_from, is_live}
use Rattle.gt_pins.proofs.LiveLists.{free_here, free_later}
use Rattle.gt_pins.proofs.live.Live.least_free.Goals as goal

pub returns-then-not-has : goal.returns-then-not-has
returns-then-not-has c =
    let free : is_live c.args.self.now c.loop-number.number ≡ false = sym c.has.ensures ∙ c.if-not-has.true in
    sym (c.loop-number.invariant.free ∙ free_here c.args.self.now c.loop-number.number (c.len-len.result - c.loop-number.number) free)

pub loop-number-preserved : goal.loop-number-preserved
loop-number-preserved c =
    let taken : is_live c.args.self.now c.loop-number.number ≡ true = sym c.has.ensures ∙ c.if-not-has.false in
    let fewer : c.len-len.result - c.loop-number.number ≡ c.len-len.result - (c.loop-number.number + 1) + 1 = omega (arith, c.loop-number-test.true) in
    record {
      len = c.loop-number.invariant.len;
      free = c.loop-number.invariant.free ∙ free_later c.args.self.now c.loop-number.number _ _ fewer taken;
    }

pub returns : goal.returns
returns c =
    let last : c.loop-number.number ≡ c.len-len.result = omega (arith, c.loop-number.auto.number-end, c.loop-number-test.false) in
    let none : c.len-len.result - c.loop-number.number ≡ 0 = omega (arith, last) in
    sym (c.loop-number.invariant.free ∙ ap (free_from c.args.self.now c.loop-number.number) none ∙ last)
