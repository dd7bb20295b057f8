use Rattle.std.proofs.Common.{◌≡◌, drop, map}
use Rattle.gt_model.specs.NamedFiles.{placed}
use Rattle.gt_plain_jobs.specs.Files.{new_file}
use Rattle.gt_plain_files.proofs.shelf.placed.Given as goal

-- what is left leads to the same
abbrev pub invariant-loop-file : goal.invariant-loop-file
invariant-loop-file l = placed l.next (map new_file (drop l.file-index l.files)) l.shelf ≡ placed l.number (map new_file l.files) l.initial.shelf
