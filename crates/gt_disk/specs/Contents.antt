-- How the files that a program keeps change.
use Rattle.std.specs.Prelude.{◌≡◌, if◌then◌else◌}
use Rattle.gt_disk.specs.declared.file_id.FileId.{FileId}
use Rattle.gt_disk.specs.Files.{Content}
use Rattle.gt_disk.specs.Calls.{Contents, content_of, same_file}

-- one file has this content now, and the others are as they were
abbrev pub Puts : Contents → Contents → FileId → Content → Type 0
Puts old new file x = (q : FileId) → content_of new q ≡ (if same_file file q then x else content_of old q)
