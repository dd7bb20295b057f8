use Rattle.std.proofs.Common.{Some, None, ap, ◌∙◌, is_some}
use Rattle.gt_objset.proofs.TableLaws.{head_found}
use Rattle.gt_objset.proofs.objset.ObjSet.there.Goals as goal

pub returns-in-None : goal.returns-in-None
returns-in-None c = rw (← c.self.view_is) (ap is_some (head_found c.self.inside.floor c.self.inside.front c.self.inside.repos.entries c.self.inside.members.entries c.self.inside.head c.self.inside.puts c.args.at c.args.path.now None c.in-None.ensures.value))

pub returns-in-Some : goal.returns-in-Some
returns-in-Some c = rw (← c.self.view_is) (c.is_there.ensures ∙ ap is_some (head_found c.self.inside.floor c.self.inside.front c.self.inside.repos.entries c.self.inside.members.entries c.self.inside.head c.self.inside.puts c.args.at c.args.path.now (Some c.in-Some.repo.now) c.in-Some.ensures.value))
