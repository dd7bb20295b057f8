use Rattle.std.proofs.Common.{◌++◌, take, arith, length-append, length-take}
use Rattle.std.proofs.lemmas.Grind.{common_steps}
use Rattle.gt_outside.proofs.Pieces.{consumes_then}
use Rattle.gt_outside.proofs.reading.read_whole.Goals as goal

pub returns-then-is_err-clause-most : goal.returns-then-is_err-clause-most
returns-then-is_err-clause-most g c =
    let left = g.S.Source.left in
    record {
      bytes = c.pieces.all.items ++ take c.in-Ok.count c.read.new.into;
      count = grind (arith, common_steps, length-append, length-take);
      taken = consumes_then (left c.args.source.now) (left c.pieces.source) (left c.read.new.self) c.pieces.all.items (take c.in-Ok.count c.read.new.into) c.pieces.invariant.done c.in-Ok.ensures.bytes.0;
    }
