use Rattle.std.proofs.Common.{ap, ◌∙◌}
use Rattle.std.specs.FinMap as map
use Rattle.gt_versions.proofs.Keys.{inserted}
use Rattle.gt_apply.proofs.shelves.Shelves.put.Goals as goal

pub returns : goal.returns
returns c = inserted c.self.inside.tree.entries c.insert.new.self.entries c.args.path c.args.repo c.in_ok-insert.ensures.updates.0 ∙ ap (λ m. map.insert m c.args.path c.args.repo) c.self.view_is
