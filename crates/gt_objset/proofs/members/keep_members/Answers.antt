use Rattle.std.proofs.Common.{rules}
use Rattle.std.specs.BTreeMap as tree
use Rattle.gt_model.specs.Contents.{key_cmp}
use Rattle.gt_objset.specs.Raised.{KeepsPaths, has_paths}
use Rattle.gt_objset.proofs.RetainLaws.{retained}
use Rattle.gt_objset.proofs.members.keep_members.Goals as goal

pub returns : goal.returns
returns c = retained _ (KeepsPaths (λ x. tree.get key_cmp c.args.repos.now x)) has_paths _ (λ k v b w g t. search rules) c.args.members.now.entries c.retain.new.self.entries c.retain.ensures.was_ordered c.retain.ensures.filtered
