use Rattle.std.proofs.Common.{◌≡◌, ◌++◌, drop, map, filter, nat_lt}
use Rattle.gt_model.specs.NamedFiles.{file}
use Rattle.gt_plain_files.proofs.adding.add_taken.Given as goal

-- what was added, and what is left to add
abbrev pub invariant-loop-item : goal.invariant-loop-item
invariant-loop-item l = l.files.items ++ map (λ t. file 5 t.number) (filter (λ t. nat_lt l.low t.position) (drop l.item-index l.taken)) ≡ l.initial.files.items ++ map (λ t. file 5 t.number) (filter (λ t. nat_lt l.low t.position) l.taken)
