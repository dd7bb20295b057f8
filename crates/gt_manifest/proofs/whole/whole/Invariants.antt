use Rattle.std.proofs.Common.{◌≡◌, drop}
use Rattle.gt_manifest.specs.Whole.{walk, repo_here, seen, whole}
use Rattle.gt_manifest.proofs.whole.whole.Given as goal

abbrev pub invariant-repos : goal.invariant-repos
invariant-repos l = walk (repo_here l.all l.version l.manifest.next) (seen l.gone) (drop l.repo-index l.all) ≡ whole l.version l.manifest
