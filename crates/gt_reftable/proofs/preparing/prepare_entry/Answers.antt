use Rattle.std.proofs.Common.{◌+◌}
use Rattle.gt_versions.proofs.Keys.{at_key}
use Rattle.gt_reftable.proofs.TableLaws.{same_everywhere, same_roomier, write_room}
use Rattle.gt_reftable.proofs.preparing.prepare_entry.Goals as goal

pub returns-in-Create-clause-same : goal.returns-in-Create-clause-same
returns-in-Create-clause-same c = same_everywhere c.args.repos.now.entries c.grow_life.new.repos.entries c.args.entry.now.path (same_roomier (at_key c.args.repos.now.entries c.args.entry.now.path) (at_key c.grow_life.new.repos.entries c.args.entry.now.path) c.grow_life.ensures.here) c.grow_life.ensures.others

pub returns-in-Delete-clause-same : goal.returns-in-Delete-clause-same
returns-in-Delete-clause-same c = same_everywhere c.args.repos.now.entries c.grow_life-in-Delete.new.repos.entries c.args.entry.now.path (same_roomier (at_key c.args.repos.now.entries c.args.entry.now.path) (at_key c.grow_life-in-Delete.new.repos.entries c.args.entry.now.path) c.grow_life-in-Delete.ensures.here) c.grow_life-in-Delete.ensures.others

pub returns-in-Write-clause-ok : goal.returns-in-Write-clause-ok
returns-in-Write-clause-ok c = write_room c.prepare_write.result (c.args.front + 1) c.in-Write.refs c.as_slice.result.now c.in-Write.needed c.in-Write.added c.args.entry.now.change (at_key c.prepare_write.new.repos.entries c.args.entry.now.path) c.in-Write.is c.as_slice.ensures c.prepare_write.ensures.ok
