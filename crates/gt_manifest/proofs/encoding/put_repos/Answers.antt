use Rattle.gt_manifest.specs.declared.version.Version.TheVariants.{Second}
use Rattle.gt_manifest.specs.Spelling.{repo}
use Rattle.gt_manifest.proofs.PutLemmas.{one_more}
use Rattle.gt_manifest.proofs.encoding.put_repos.Goals as goal

pub repos-preserved : goal.repos-preserved
repos-preserved c = one_more (repo Second) c.args.repos.now c.repos.repo-index c.repo-item.result c.args.out.now.items c.repos.out.items c.put_repo.new.out.items c.repos-test.true c.repo-item.is c.repos.invariant c.in_ok-put_repo.ensures
