use Rattle.std.proofs.Common.{rules}
use Rattle.gt_objset.specs.Raised.{RaisesTrack, has_versions}
use Rattle.gt_objset.proofs.RetainLaws.{retained}
use Rattle.gt_objset.proofs.raising.raise_repos.Goals as goal

pub returns : goal.returns
returns c = retained _ (RaisesTrack c.args.to) (λ t. has_versions t.lives.0) _ (λ k v b w g t. search rules) c.args.repos.now.entries c.retain.new.self.entries c.retain.ensures.was_ordered c.retain.ensures.filtered
