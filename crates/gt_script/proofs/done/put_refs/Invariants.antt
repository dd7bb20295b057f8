use Rattle.std.proofs.Common.{◌≡◌, ◌++◌, drop}
use Rattle.gt_script.specs.Printed.{further, refs_words}
use Rattle.gt_script.proofs.done.put_refs.Given as goal

abbrev pub invariant-loop-reference : goal.invariant-loop-reference
invariant-loop-reference l = l.out.items ++ further (refs_words (drop l.reference-index l.list)) ≡ l.fn.out.items ++ further (refs_words l.list)
