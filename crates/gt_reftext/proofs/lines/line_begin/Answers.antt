use Rattle.std.proofs.Common.{◌+◌, ◌-◌, arith}
use Rattle.gt_reftext.proofs.BeginLemmas.{begin_first, begin_next, begin_past, cut_bytes, same_begin}
use Rattle.gt_reftext.proofs.lines.line_begin.Goals as goal

pub lines-init : goal.lines-init
lines-init c = record { within = omega arith; so_far = omega (arith, same_begin c.args.bytes.now c.args.line (c.args.line - 1 + 1) (omega arith)) }

pub returns-in-None : goal.returns-in-None
returns-in-None c =
    let past = begin_past c.lines.rest.now (c.args.line - c.lines.counter + 1) (c.args.line - c.lines.counter - 1) c.in-None.ensures (omega (arith, c.lines-test.true)) in
    omega (arith, past, c.lines.invariant.so_far)

pub lines-preserved : goal.lines-preserved
lines-preserved c =
    let next = begin_next c.lines.rest.now c.in-Some.first.now c.in-Some.after.now (c.args.line - c.lines.counter + 1) (c.args.line - (c.lines.counter + 1) + 1) c.in-Some.ensures.0 (omega (arith, c.lines-test.true)) in
    record {
      within = omega (arith, cut_bytes c.lines.rest.now c.in-Some.first.now c.in-Some.after.now c.in-Some.ensures.0, c.lines.invariant.within);
      so_far = omega (arith, next, c.lines.invariant.so_far);
    }

pub returns : goal.returns
returns c =
    let first = begin_first c.lines.rest.now (c.args.line - c.lines.counter + 1) (omega (arith, c.lines-test.false)) in
    omega (arith, first, c.lines.invariant.so_far)
