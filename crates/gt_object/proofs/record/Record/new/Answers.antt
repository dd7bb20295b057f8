use Rattle.std.proofs.Common.{length, ap, arith, length-append}
use Rattle.gt_object.specs.Header.{header}
use Rattle.gt_object.proofs.HeaderLaws.{new_holds}
use Rattle.gt_object.proofs.record.Record.new.Goals as goal

pub invariant_of-result : goal.invariant_of-result
invariant_of-result c =
    let is = c.in_ok-bytes.ensures in
    let b = c.header_len-begin.ensures.value in
    let len = length-append (header c.args.kind (length c.args.content.now)) c.args.content.now in
    new_holds c.args.kind c.args.content.now c.header_len-begin.result c.in_ok-bytes.bytes.items (omega arith) is b (cc) (omega (arith, ap length is, len, b))
