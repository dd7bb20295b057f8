use Rattle.std.proofs.Common.{sym, ap, ◌∙◌}
use Rattle.std.specs.FinMap as map
use Rattle.gt_plain.proofs.Maps.{get_key}
use Rattle.gt_plain_files.proofs.shelves.PlainShelves.get.Goals as goal

pub returns : goal.returns
returns c = c.get.ensures.value ∙ sym (get_key c.self.inside.tree.entries c.args.path.now) ∙ ap (λ m. map.get m c.args.path.now) c.self.view_is
