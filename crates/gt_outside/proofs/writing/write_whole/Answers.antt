use Rattle.std.proofs.Common.{arith, length-drop, ◌∙◌}
use Rattle.gt_outside.proofs.Pieces.{appends_more, front_more}
use Rattle.gt_outside.proofs.writing.write_whole.Goals as goal

pub pieces-preserved : goal.pieces-preserved
pieces-preserved g c = record {
  within = omega (arith, length-drop c.pieces.at c.args.bytes.now, c.in-Ok.ensures.bound);
  done = appends_more (g.K.Sink.written c.args.sink.now) (g.K.Sink.written c.pieces.sink) (g.K.Sink.written c.write.new.self) c.pieces.at c.in-Ok.count c.args.bytes.now c.pieces.invariant.done c.in-Ok.ensures.bytes;
  same = c.in-Ok.ensures.cause.ok ∙ c.pieces.invariant.same;
}

pub returns-in-Err-clause-part : goal.returns-in-Err-clause-part
returns-in-Err-clause-part g c = front_more (g.K.Sink.written c.args.sink.now) (g.K.Sink.written c.pieces.sink) (g.K.Sink.written c.write.new.self) c.pieces.at c.args.bytes.now c.pieces.invariant.done c.in-Err.ensures.bytes
