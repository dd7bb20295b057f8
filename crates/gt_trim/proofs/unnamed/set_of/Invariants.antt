use Rattle.std.proofs.Common.{take}
use Rattle.gt_trim.specs.Unnamed.{Agrees}
use Rattle.gt_trim.proofs.unnamed.set_of.Given as goal

-- the set has the files so far
abbrev pub invariant-files : goal.invariant-files
invariant-files l = Agrees l.set (take l.file-index l.files)
