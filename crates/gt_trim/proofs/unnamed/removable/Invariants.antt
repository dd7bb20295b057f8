use Rattle.std.proofs.Common.{◌≡◌, take}
use Rattle.gt_trim.specs.Unnamed.{once, removable_of}
use Rattle.gt_trim.proofs.Sets.{HasBoth}
use Rattle.gt_trim.proofs.unnamed.removable.Given as goal

-- the list has what is to be removed of the files so far, and the set has the named and the files so far
abbrev pub invariant-known : goal.invariant-known
invariant-known l = record {
  files : l.files ≡ removable_of (take l.file-index l.known) l.named;
  out : HasBoth l.out l.named (once (take l.file-index l.known));
}
