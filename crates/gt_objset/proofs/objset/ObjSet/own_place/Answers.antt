use Rattle.std.proofs.Common.{Some, None, ◌∙◌}
use Rattle.gt_objset.proofs.TableLaws.{own_found}
use Rattle.gt_objset.proofs.objset.ObjSet.own_place.Goals as goal

pub returns-in-None : goal.returns-in-None
returns-in-None c = rw (← c.self.view_is) (own_found c.self.inside.floor c.self.inside.front c.self.inside.repos.entries c.self.inside.members.entries c.self.inside.head c.self.inside.puts c.args.at c.args.path.now c.args.name.now None c.in-None.ensures.value)

pub returns-in-Some : goal.returns-in-Some
returns-in-Some c = rw (← c.self.view_is) (c.own.ensures ∙ own_found c.self.inside.floor c.self.inside.front c.self.inside.repos.entries c.self.inside.members.entries c.self.inside.head c.self.inside.puts c.args.at c.args.path.now c.args.name.now (Some c.in-Some.repo.now) c.in-Some.ensures.value)
