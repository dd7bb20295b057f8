use Rattle.gt_manifest.proofs.PutLemmas.{repos_put}
use Rattle.gt_manifest.proofs.manifest.Manifest.encode.Goals as goal

pub put_repos-requires : goal.put_repos-requires
put_repos-requires c = rw c.as_slice-repos.ensures (repos_put c.args.self.now.applied c.args.self.now.repos c.requires.0.1.1)
