use Rattle.std.proofs.Common.{refl, ap}
use Rattle.gt_versions.proofs.Keys.{at_key}
use Rattle.gt_reftable.specs.Table.{step_here}
use Rattle.gt_reftable.proofs.TableLaws.{everywhere, create_here, delete_here, write_here, same_here, after_lives, after_slot}
use Rattle.gt_reftable.proofs.adding.add_entry.Goals as goal

pub put_life-requires-clause-after : goal.put_life-requires-clause-after
put_life-requires-clause-after c = after_lives c.args.front (at_key c.args.repos.now.entries c.args.entry.now.path) (c.requires.newest c.args.entry.now.path)

pub put_life-requires-in-Delete-clause-after : goal.put_life-requires-in-Delete-clause-after
put_life-requires-in-Delete-clause-after c = after_lives c.args.front (at_key c.args.repos.now.entries c.args.entry.now.path) (c.requires.newest c.args.entry.now.path)

pub write-requires-clause-after : goal.write-requires-clause-after
write-requires-clause-after c = after_slot c.args.front (at_key c.args.repos.now.entries c.args.entry.now.path) (c.requires.newest c.args.entry.now.path)

pub returns-in-Create : goal.returns-in-Create
returns-in-Create c = everywhere c.args.repos.now.entries c.put_life.new.repos.entries c.args.front c.args.entry.now c.requires.newest (create_here c.args.front c.in-Create.pool c.args.entry.now.change (at_key c.args.repos.now.entries c.args.entry.now.path) (at_key c.put_life.new.repos.entries c.args.entry.now.path) c.in-Create.is (c.requires.newest c.args.entry.now.path) c.put_life.ensures.here) c.put_life.ensures.others

pub returns-in-Delete : goal.returns-in-Delete
returns-in-Delete c = everywhere c.args.repos.now.entries c.put_life-in-Delete.new.repos.entries c.args.front c.args.entry.now c.requires.newest (delete_here c.args.front c.args.entry.now.change (at_key c.args.repos.now.entries c.args.entry.now.path) (at_key c.put_life-in-Delete.new.repos.entries c.args.entry.now.path) c.in-Delete.is (c.requires.newest c.args.entry.now.path) c.put_life-in-Delete.ensures.here) c.put_life-in-Delete.ensures.others

pub returns-in-Write : goal.returns-in-Write
returns-in-Write c = everywhere c.args.repos.now.entries c.write.new.repos.entries c.args.front c.args.entry.now c.requires.newest (write_here c.args.front c.as_slice.result.now c.in-Write.refs c.in-Write.needed c.in-Write.added c.args.entry.now.change (at_key c.args.repos.now.entries c.args.entry.now.path) (at_key c.write.new.repos.entries c.args.entry.now.path) c.in-Write.is c.as_slice.ensures c.requires.room (c.requires.newest c.args.entry.now.path) c.write.ensures.here) c.write.ensures.others

pub returns-in-Link : goal.returns-in-Link
returns-in-Link c = everywhere c.args.repos.now.entries c.args.repos.now.entries c.args.front c.args.entry.now c.requires.newest (same_here c.args.front c.args.entry.now.change (at_key c.args.repos.now.entries c.args.entry.now.path) (λ x o. ap (λ ch. step_here ch x o) c.in-Link.is) (c.requires.newest c.args.entry.now.path)) (λ x t. refl)

pub returns-in-Repack : goal.returns-in-Repack
returns-in-Repack c = everywhere c.args.repos.now.entries c.args.repos.now.entries c.args.front c.args.entry.now c.requires.newest (same_here c.args.front c.args.entry.now.change (at_key c.args.repos.now.entries c.args.entry.now.path) (λ x o. ap (λ ch. step_here ch x o) c.in-Repack.is) (c.requires.newest c.args.entry.now.path)) (λ x t. refl)

pub returns-in-Prune : goal.returns-in-Prune
returns-in-Prune c = everywhere c.args.repos.now.entries c.args.repos.now.entries c.args.front c.args.entry.now c.requires.newest (same_here c.args.front c.args.entry.now.change (at_key c.args.repos.now.entries c.args.entry.now.path) (λ x o. ap (λ ch. step_here ch x o) c.in-Prune.is) (c.requires.newest c.args.entry.now.path)) (λ x t. refl)

pub returns-in-PackRefs : goal.returns-in-PackRefs
returns-in-PackRefs c = everywhere c.args.repos.now.entries c.args.repos.now.entries c.args.front c.args.entry.now c.requires.newest (same_here c.args.front c.args.entry.now.change (at_key c.args.repos.now.entries c.args.entry.now.path) (λ x o. ap (λ ch. step_here ch x o) c.in-PackRefs.is) (c.requires.newest c.args.entry.now.path)) (λ x t. refl)

pub returns-in-Unlink : goal.returns-in-Unlink
returns-in-Unlink c = everywhere c.args.repos.now.entries c.args.repos.now.entries c.args.front c.args.entry.now c.requires.newest (same_here c.args.front c.args.entry.now.change (at_key c.args.repos.now.entries c.args.entry.now.path) (λ x o. ap (λ ch. step_here ch x o) c.in-Unlink.is) (c.requires.newest c.args.entry.now.path)) (λ x t. refl)
