use Rattle.gt_objset.proofs.RepoLaws.{upto_in_tree, room_in_tree, puts_of_tree}
use Rattle.gt_objset.proofs.repo.RepoObjects.put.Goals as goal

pub put_slots-requires-clause-after : goal.put_slots-requires-clause-after
put_slots-requires-clause-after c =
    let up = rw (← c.self.view_is) at c.requires.after in
    upto_in_tree c.self.inside.lives c.self.inside.kinds c.self.inside.pools c.self.inside.objects.entries c.args.position up

pub put_slots-requires-clause-room : goal.put_slots-requires-clause-room
put_slots-requires-clause-room c =
    let room = rw (← c.self.view_is) at c.requires.room in
    room_in_tree c.self.inside.lives c.self.inside.kinds c.self.inside.pools c.self.inside.objects.entries c.args.position c.args.puts.now room

pub returns : goal.returns
returns c = rw (← c.self.view_is) (record {
  lives = c.put_if.ensures;
  kinds = c.put_if-2.ensures;
  pools = c.put_if-3.ensures;
  objects = puts_of_tree c.args.position c.self.inside.objects.entries c.put_slots.new.slots.entries c.args.puts.now c.put_slots.ensures;
})
