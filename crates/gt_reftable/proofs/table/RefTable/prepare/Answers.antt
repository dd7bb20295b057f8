use Rattle.std.proofs.Common.{◌+◌}
use Rattle.gt_reftable.proofs.TableLaws.{same_up, prepared}
use Rattle.gt_reftable.proofs.RefsLaws.{same_table}
use Rattle.gt_reftable.proofs.table.RefTable.prepare.Goals as goal

pub invariant_of-self : goal.invariant_of-self
invariant_of-self c = same_up c.self.inside.front c.self.inside.repos.entries c.prepare_entry.new.repos.entries c.prepare_entry.ensures.same c.self.invariant

pub returns-clause-same : goal.returns-clause-same
returns-clause-same c = rw (← c.self.view_is) (same_table c.self.inside.floor c.self.inside.front c.self.inside.repos.entries c.prepare_entry.new.repos.entries c.prepare_entry.ensures.same)

pub returns-clause-ok : goal.returns-clause-ok
returns-clause-ok c = prepared c.prepare_entry.result (c.self.inside.front + 1) c.args.entry.now.change c.prepare_entry.new.repos.entries c.args.entry.now.path c.prepare_entry.ensures.ok
