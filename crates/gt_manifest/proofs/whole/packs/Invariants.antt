use Rattle.std.proofs.Common.{◌≡◌, drop}
use Rattle.gt_manifest.specs.Whole.{walk, number_here, seen}
use Rattle.gt_manifest.proofs.whole.packs.Given as goal

abbrev pub invariant-packs : goal.invariant-packs
invariant-packs l = walk (number_here l.next) (seen l.gone) (drop l.pack-index l.packs) ≡ walk (number_here l.next) (seen l.fn.gone) l.packs
