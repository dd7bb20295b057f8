use Rattle.std.proofs.Common.{◌≡◌, ◌++◌, take}
use Rattle.std.specs.List.{flat_map}
use Rattle.gt_manifest.specs.declared.version.Version.TheVariants.{Second}
use Rattle.gt_manifest.specs.Spelling.{repo}
use Rattle.gt_manifest.proofs.encoding.put_repos.Given as goal

abbrev pub invariant-repos : goal.invariant-repos
invariant-repos l = l.out.items ≡ l.fn.out.items ++ flat_map (repo Second) (take l.repo-index l.repos)
