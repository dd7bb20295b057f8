use Rattle.std.proofs.Common.{◌≤◌}
use Rattle.gt_reftable.proofs.RaisingLaws.{table_raised, table_lean, table_up}
use Rattle.gt_reftable.proofs.table.RefTable.raise.Goals as goal

pub invariant_of-self : goal.invariant_of-self
invariant_of-self c =
    let to : c.args.to ≤ c.self.inside.front = rw (← c.self.view_is) at c.requires.to in
    table_up c.self.inside.floor c.self.inside.front c.args.to c.self.inside.repos.entries c.raise_repos.new.repos.entries c.raise_repos.ensures to c.self.invariant

pub returns-clause-raised : goal.returns-clause-raised
returns-clause-raised c = rw (← c.self.view_is) (table_raised c.self.inside.floor c.self.inside.front c.args.to c.self.inside.repos.entries c.raise_repos.new.repos.entries c.raise_repos.ensures)

pub returns-clause-lean : goal.returns-clause-lean
returns-clause-lean c = table_lean c.self.inside.floor c.self.inside.front c.args.to c.self.inside.repos.entries c.raise_repos.new.repos.entries c.raise_repos.ensures
