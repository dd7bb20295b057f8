use Rattle.std.proofs.Common.{◌+◌, arith, length-drop, sym}
use Rattle.gt_reftext.proofs.PartsLemmas.{parts_found, parts_missing}
use Rattle.gt_reftext.proofs.lines.first_line.Goals as goal

pub returns-in-None : goal.returns-in-None
returns-in-None c = parts_missing c.args.rest.now (sym c.in-None.ensures)

pub returns-in-Some : goal.returns-in-Some
returns-in-Some c =
    let found = parts_found c.args.rest.now c.in-Some.end (sym c.in-Some.ensures) in
    (rw (c.split_at.ensures.front, c.split_at-in-Some.ensures.back) found.0, rw c.split_at-in-Some.ensures.back (omega (arith, found.1, length-drop (c.in-Some.end + 1) c.args.rest.now)))
