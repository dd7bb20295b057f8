use Rattle.gt_reftable.proofs.CurrentLaws.{room_of, upto_of, put_of}
use Rattle.gt_reftable.proofs.current.Current.put.Goals as goal

pub put-requires-clause-after : goal.put-requires-clause-after
put-requires-clause-after c =
    let after = rw (← c.self.view_is) at c.requires.after in
    let room = rw (← c.self.view_is) at c.requires.room in
    upto_of c.args.position c.args.name.now c.self.inside.refs c.self.inside.is_over room after

pub put-requires-clause-room : goal.put-requires-clause-room
put-requires-clause-room c =
    let room = rw (← c.self.view_is) at c.requires.room in
    room_of c.args.position c.args.name.now c.self.inside.refs c.self.inside.is_over room

pub returns : goal.returns
returns c =
    let room = rw (← c.self.view_is) at c.requires.room in
    rw (← c.self.view_is) (put_of c.args.position c.args.name.now c.self.inside.refs c.self.inside.is_over c.args.value c.put.new.self room c.put.ensures)
