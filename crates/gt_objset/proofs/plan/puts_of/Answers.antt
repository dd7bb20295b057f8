use Rattle.gt_versions.proofs.Keys.{at_key}
use Rattle.gt_objset.specs.Table.{head_in_slot, own_in_slot}
use Rattle.gt_objset.proofs.TableLaws.{unlink_planned}
use Rattle.gt_objset.proofs.plan.puts_of.Goals as goal

pub returns-in-Unlink : goal.returns-in-Unlink
returns-in-Unlink c = unlink_planned c.taken.result c.args.entry.now.change c.in-Unlink.file c.args.entry.now.position c.args.entry.now.path (head_in_slot (at_key c.args.repos.now.entries c.args.entry.now.path) c.args.front) (λ p x. own_in_slot (at_key c.args.repos.now.entries p) c.args.front x) c.in-Unlink.is c.taken.ensures
