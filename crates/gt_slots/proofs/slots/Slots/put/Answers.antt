use Rattle.std.proofs.Common.{ℕ, List, Option, IsTrue, subst}
use Rattle.gt_versions.specs.Versions.{IsUpTo}
use Rattle.gt_versions.proofs.Keys.{get_key}
use Rattle.gt_slots.specs.Slots.{items_of, slot_ready}
use Rattle.gt_slots.specs.Pages.{all}
use Rattle.gt_slots.proofs.SlotLaws.{puts}
use Rattle.gt_slots.proofs.slots.Slots.put.Goals as goal

pub put_slot-requires-clause-after : goal.put_slot-requires-clause-after
put_slot-requires-clause-after c =
    let up = rw (← c.self.view_is) at c.requires.after in
    let S : Option (List (ℕ × Option (List ℕ)) × ℕ) → Type 0 = λ s. IsUpTo c.args.position (items_of s) in
    subst S (get_key (all c.self.inside.pages.items) c.args.name.now) up

pub put_slot-requires-clause-room : goal.put_slot-requires-clause-room
put_slot-requires-clause-room c =
    let room = rw (← c.self.view_is) at c.requires.room in
    let S : Option (List (ℕ × Option (List ℕ)) × ℕ) → Type 0 = λ s. IsTrue (slot_ready c.args.position s) in
    subst S (get_key (all c.self.inside.pages.items) c.args.name.now) room

pub returns : goal.returns
returns c = rw (← c.self.view_is) (puts (all c.self.inside.pages.items) (all c.put_slot.new.pages.items) c.args.position c.args.name.now c.args.value c.put_slot.ensures.here c.put_slot.ensures.some c.put_slot.ensures.others)
