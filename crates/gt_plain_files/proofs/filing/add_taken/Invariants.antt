use Rattle.std.proofs.Common.{◌≡◌, ◌++◌, drop, map}
use Rattle.gt_plain_files.proofs.filing.add_taken.Given as goal

-- what was added, and what is left to add
abbrev pub invariant-loop-number : goal.invariant-loop-number
invariant-loop-number l = l.taken.items ++ map (λ n. record { position = l.position; number = n }) (drop l.number-index l.numbers) ≡ l.initial.taken.items ++ map (λ n. record { position = l.position; number = n }) l.numbers
