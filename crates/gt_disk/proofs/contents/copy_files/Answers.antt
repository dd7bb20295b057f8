use Rattle.std.specs.Ordering.{is_eq}
use Rattle.gt_disk.specs.Files.{file_cmp}
use Rattle.gt_disk.proofs.Copied.{copied}
use Rattle.gt_disk.proofs.contents.copy_files.Goals as goal

pub returns : goal.returns
returns c = λ f. copied (λ k. is_eq (file_cmp f k)) c.args.files.now.entries c.in_ok-copy.copy.entries c.in_ok-copy.ensures.cases
