use Rattle.std.proofs.Common.{◌≡◌, ◌++◌, drop, flat_map, map}
use Rattle.gt_model.specs.Batches.{files_of}
use Rattle.gt_plain_jobs.specs.Files.{new_file}
use Rattle.gt_plain_jobs.proofs.repos.all_files.Given as goal

-- what was found, and what is left to look through
abbrev pub invariant-loop-entries : goal.invariant-loop-entries
invariant-loop-entries l = map new_file l.files.items ++ flat_map files_of (drop l.entries-index l.repos) ≡ flat_map files_of l.repos
