use Rattle.std.proofs.Common.{◌≡◌, ◌++◌, drop, flat_map, map}
use Rattle.gt_model.specs.Batches.{files_at}
use Rattle.gt_plain_jobs.specs.Files.{new_file}
use Rattle.gt_plain_jobs.proofs.repos.files_in.Given as goal

-- what was found, and what is left to look through
abbrev pub invariant-loop-path : goal.invariant-loop-path
invariant-loop-path l = map new_file l.files.items ++ flat_map (λ path. files_at path l.entries) (drop l.path-index l.paths) ≡ flat_map (λ path. files_at path l.entries) l.paths
