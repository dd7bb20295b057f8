use Rattle.std.proofs.Common.{◌≡◌, ◌++◌, drop, map}
use Rattle.gt_model.specs.Batches.{loose}
use Rattle.gt_plain_jobs.specs.Files.{new_file}
use Rattle.gt_plain_jobs.proofs.batches.add_loose.Given as goal

-- what was added, and what is left to add
abbrev pub invariant-loop-name : goal.invariant-loop-name
invariant-loop-name l = map new_file l.files.items ++ map loose (drop l.name-index l.names) ≡ map new_file l.initial.files.items ++ map loose l.names
