use Rattle.gt_objset.proofs.RaisedLaws.{raised_kept, raised, lean}
use Rattle.gt_objset.proofs.objset.ObjSet.raise.Goals as goal

pub invariant_of-self : goal.invariant_of-self
invariant_of-self c =
    let low = rw (← c.self.view_is) at c.requires.from in
    let high = rw (← c.self.view_is) at c.requires.to in
    raised_kept c.self.inside.floor c.self.inside.front c.args.to c.self.inside.repos.entries c.raise_repos.new.repos.entries c.raise_repos.ensures c.self.inside.members.entries c.keep_members.new.members.entries c.keep_members.ensures low high c.self.invariant

pub returns-clause-raised : goal.returns-clause-raised
returns-clause-raised c = rw (← c.self.view_is) (raised c.self.inside.floor c.self.inside.front c.args.to c.self.inside.repos.entries c.raise_repos.new.repos.entries c.raise_repos.ensures c.self.inside.members.entries c.keep_members.new.members.entries c.keep_members.ensures c.self.inside.head c.self.inside.puts)

pub returns-clause-lean : goal.returns-clause-lean
returns-clause-lean c = lean c.self.inside.floor c.self.inside.front c.args.to c.self.inside.repos.entries c.raise_repos.new.repos.entries c.raise_repos.ensures c.self.inside.members.entries c.keep_members.new.members.entries c.keep_members.ensures c.self.inside.head c.self.inside.puts
