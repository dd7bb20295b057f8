use Rattle.std.proofs.Common.{◌≡◌, ◌++◌, drop, flat_map}
use Rattle.gt_model.specs.NamedFiles.{work_files}
use Rattle.gt_plain_machine.proofs.named.add_works.Given as goal

-- what was added, and what is left to add
abbrev pub invariant-loop-pin : goal.invariant-loop-pin
invariant-loop-pin l = l.files.items ++ flat_map (λ p. work_files p.work) (drop l.pin-index l.pins) ≡ l.initial.files.items ++ flat_map (λ p. work_files p.work) l.pins
