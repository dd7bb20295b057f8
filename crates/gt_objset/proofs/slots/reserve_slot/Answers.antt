use Rattle.std.proofs.Common.{◌≡◌, None, arith}
use Rattle.std.proofs.lemmas.Grind.{common_steps}
use Rattle.gt_versions.proofs.Keys.{at_key}
use Rattle.gt_objset.proofs.SlotLaws.{roomier, roomier_new}
use Rattle.gt_objset.proofs.slots.reserve_slot.Goals as goal

pub returns-then-contains_key-clause-same : goal.returns-then-contains_key-clause-same
returns-then-contains_key-clause-same c = roomier c.args.slots.now.entries c.grow_slot.new.slots.entries c.args.name.now c.grow_slot.ensures.others c.grow_slot.ensures.here c.grow_slot.ensures.kept

pub returns-else-contains_key-clause-same : goal.returns-else-contains_key-clause-same
returns-else-contains_key-clause-same c =
    let none : at_key c.args.slots.now.entries c.args.name.now ≡ None = grind (arith, common_steps) in
    roomier_new c.args.slots.now.entries c.add_slot.new.slots.entries c.args.name.now c.add_slot.ensures.others none c.add_slot.ensures.here
