use Rattle.std.proofs.Common.{sym, ap, ◌∙◌}
use Rattle.std.specs.FinMap as map
use Rattle.gt_plain.proofs.Maps.{get_key}
use Rattle.gt_plain.proofs.refs.PlainRefs.get.Goals as goal

pub returns : goal.returns
returns c = c.copied.ensures ∙ c.get.ensures.value ∙ sym (get_key c.self.inside.tree.entries c.args.name.now) ∙ ap (λ m. map.get m c.args.name.now) c.self.view_is
