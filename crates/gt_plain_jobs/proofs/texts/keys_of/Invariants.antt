use Rattle.std.proofs.Common.{◌≡◌, ◌++◌, map}
use Rattle.gt_plain_jobs.proofs.texts.keys_of.Given as goal

-- what was copied, and what is left to copy
abbrev pub invariant-loop-key : goal.invariant-loop-key
invariant-loop-key l = l.keys.items ++ l.key-iterator ≡ map (λ e. e.0) l.tree.entries
