use Rattle.std.proofs.Common.{◌≡◌, drop}
use Rattle.gt_manifest.specs.Whole.{walk, loose_here, seen}
use Rattle.gt_manifest.proofs.whole.loose_files.Given as goal

abbrev pub invariant-files : goal.invariant-files
invariant-files l = walk (loose_here l.next) (seen l.gone) (drop l.file-index l.files) ≡ walk (loose_here l.next) (seen l.fn.gone) l.files
