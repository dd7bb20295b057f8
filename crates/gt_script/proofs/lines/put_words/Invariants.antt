use Rattle.std.proofs.Common.{◌≡◌, ◌++◌, map, drop}
use Rattle.gt_script.specs.Printed.{further}
use Rattle.gt_script.proofs.lines.put_words.Given as goal

abbrev pub invariant-loop-word : goal.invariant-loop-word
invariant-loop-word l = l.out.items ++ further (map (λ w. w.now) (drop l.word-index l.words)) ≡ l.fn.out.items ++ further (map (λ w. w.now) l.words)
