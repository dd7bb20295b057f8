use Rattle.std.proofs.Common.{sym}
use Rattle.gt_name.proofs.DigitsLemmas.{decode_of-good}
use Rattle.gt_name.proofs.name.Name.parse.Goals as goal

pub unreachable-requires : goal.unreachable-requires
unreachable-requires c =
    let good = decode_of-good c.args.text.now (sym c.in_default.ensures) in
    let read = rw good.2 at c.decode_to_slice.ensures.value in
    cc

pub returns-clause-ok : goal.returns-clause-ok
returns-clause-ok c =
    let good = decode_of-good c.args.text.now (sym c.in_default.ensures) in
    let read = rw good.2 at c.decode_to_slice.ensures.value in
    (sym c.in_default.ensures, rw read.1 good.3, rw read.1 good.1)
