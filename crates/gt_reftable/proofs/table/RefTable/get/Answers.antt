use Rattle.std.proofs.Common.{Some, None, refl}
use Rattle.gt_reftable.proofs.RefsLaws.{found_value}
use Rattle.gt_reftable.proofs.table.RefTable.get.Goals as goal

pub returns-in-None : goal.returns-in-None
returns-in-None c = rw (← c.self.view_is) (found_value c.self.inside.floor c.self.inside.front c.self.inside.repos.entries c.args.at c.args.path.now c.args.name.now None None c.in-None.ensures.value refl)

pub returns-in-Some : goal.returns-in-Some
returns-in-Some c = rw (← c.self.view_is) (found_value c.self.inside.floor c.self.inside.front c.self.inside.repos.entries c.args.at c.args.path.now c.args.name.now (Some c.in-Some.repo.now) c.value.result c.in-Some.ensures.value c.value.ensures)
