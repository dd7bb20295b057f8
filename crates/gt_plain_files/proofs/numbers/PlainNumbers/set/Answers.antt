use Rattle.std.proofs.Common.{ap, ◌∙◌}
use Rattle.std.specs.FinMap as map
use Rattle.gt_plain.proofs.Maps.{inserted}
use Rattle.gt_plain_files.proofs.numbers.PlainNumbers.set.Goals as goal

pub returns-clause-ok : goal.returns-clause-ok
returns-clause-ok c = inserted c.self.inside.tree.entries c.insert.new.self.entries c.args.name c.args.number c.in_ok-insert.ensures.updates.0 ∙ ap (λ m. map.insert m c.args.name c.args.number) c.self.view_is
