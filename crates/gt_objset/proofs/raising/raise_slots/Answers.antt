use Rattle.std.proofs.Common.{rules}
use Rattle.gt_objset.specs.Raised.{RaisesValues, has_versions}
use Rattle.gt_objset.proofs.RetainLaws.{retained}
use Rattle.gt_objset.proofs.raising.raise_slots.Goals as goal

pub returns : goal.returns
returns c = retained _ (RaisesValues c.args.life c.args.to) (λ s. has_versions s.0) _ (λ k v b w g t. search rules) c.args.slots.now.entries c.retain.new.self.entries c.retain.ensures.was_ordered c.retain.ensures.filtered
