use Rattle.std.proofs.Common.{sym, ap, ◌∙◌}
use Rattle.std.specs.FinMap as map
use Rattle.gt_versions.proofs.Keys.{get_key, removed}
use Rattle.gt_apply.proofs.shelves.Shelves.take.Goals as goal

pub returns-clause-taken : goal.returns-clause-taken
returns-clause-taken c = c.remove.ensures.value ∙ sym (get_key c.self.inside.tree.entries c.args.path.now) ∙ ap (λ m. map.get m c.args.path.now) c.self.view_is

pub returns-clause-left : goal.returns-clause-left
returns-clause-left c = removed c.self.inside.tree.entries c.remove.new.self.entries c.args.path.now c.remove.ensures.updates.0 ∙ ap (λ m. map.remove m c.args.path.now) c.self.view_is
