use Rattle.std.proofs.Common.{◌≡◌, ◌++◌, drop, map}
use Rattle.gt_model.specs.NamedFiles.{file}
use Rattle.gt_plain_files.proofs.files.add_each.Given as goal

-- what was added, and what is left to add
abbrev pub invariant-loop-number : goal.invariant-loop-number
invariant-loop-number l = l.files.items ++ map (file l.kind) (drop l.number-index l.numbers) ≡ l.initial.files.items ++ map (file l.kind) l.numbers
