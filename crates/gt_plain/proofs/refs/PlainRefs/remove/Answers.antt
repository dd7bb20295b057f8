use Rattle.std.proofs.Common.{ap, ◌∙◌}
use Rattle.std.specs.FinMap as map
use Rattle.gt_plain.proofs.Maps.{removed}
use Rattle.gt_plain.proofs.refs.PlainRefs.remove.Goals as goal

pub returns : goal.returns
returns c = removed c.self.inside.tree.entries c.remove.new.self.entries c.args.name.now c.remove.ensures.updates.0 ∙ ap (λ m. map.remove m c.args.name.now) c.self.view_is
