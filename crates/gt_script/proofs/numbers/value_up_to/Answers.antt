use Rattle.std.proofs.Common.{◌≤◌, ◌+◌, ◌*◌, ◌-◌, get_or, arith}
use Rattle.gt_script.specs.Values.{digits_value}
use Rattle.gt_script.proofs.DigitsLemmas.{step-least, over}
use Rattle.gt_script.proofs.numbers.value_up_to.Goals as goal

pub returns-then-value-high : goal.returns-then-value-high
returns-then-value-high c =
    let least : c.loop-byte.value * 10 + (get_or c.args.word.now c.loop-byte.byte-index 0 - 48) ≤ digits_value 0 c.args.word.now =
    rw c.loop-byte.invariant.same at (step-least c.loop-byte.value c.loop-byte.byte-index c.args.word.now c.loop-byte-test.true) in
    over (digits_value 0 c.args.word.now) c.args.high (omega (arith, least))
