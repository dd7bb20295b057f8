use Rattle.std.proofs.Common.{◌≡◌, ◌+◌, drop, Some}
use Rattle.gt_object.specs.Trees.{mode_len, name_len, entry_made}
use Rattle.gt_object.proofs.Parts.{entry_is}
use Rattle.gt_object.proofs.tree.entry_at.Goals as goal

pub returns-clause-value : goal.returns-clause-value
returns-clause-value c =
    let k = c.in-Some.k in
    let m = c.in-Some-name_len.m in
    let e : mode_len (drop c.args.at c.args.content.now) ≡ Some c.in-Some.k = cc in
    let d : name_len (drop (c.in-Some.k + 1) (drop c.args.at c.args.content.now)) ≡ Some c.in-Some-name_len.m = cc in
    (entry_made (drop c.args.at c.args.content.now) c.in-Some.k c.in-Some-name_len.m, entry_is c.args.content.now c.args.at c.in-Some.k c.in-Some-name_len.m e d, (cc), (cc))
