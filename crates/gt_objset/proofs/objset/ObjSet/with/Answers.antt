use Rattle.gt_versions.proofs.Keys.{at_key}
use Rattle.gt_objset.proofs.TableLaws.{up_here, room_here, added, added_up, as_given}
use Rattle.gt_objset.proofs.MemberLaws.{added_kept}
use Rattle.gt_objset.proofs.objset.ObjSet.with.Goals as goal

pub put_repo-requires-clause-after : goal.put_repo-requires-clause-after
put_repo-requires-clause-after c =
    let next = rw (← c.self.view_is) at c.requires.next in
    up_here c.self.inside.front c.args.entry.now.position c.self.inside.repos.entries c.args.entry.now.path next c.self.invariant.newest

pub put_repo-requires-clause-room : goal.put_repo-requires-clause-room
put_repo-requires-clause-room c =
    let next = rw (← c.self.view_is) at c.requires.next in
    let prepared = rw (← c.self.view_is) at c.requires.prepared in
    room_here c.self.inside.front c.args.entry.now.position c.self.inside.puts c.as_slice.result.now c.self.inside.repos.entries c.args.entry.now.path c.as_slice.ensures next prepared.room

pub invariant_of-self : goal.invariant_of-self
invariant_of-self c =
    let next = rw (← c.self.view_is) at c.requires.next in
    let prepared = rw (← c.self.view_is) at c.requires.prepared in
    let given = as_given c.args.entry.now.position c.self.inside.head c.replace-head.result c.self.inside.puts c.as_slice.result.now (at_key c.self.inside.repos.entries c.args.entry.now.path) (at_key c.put_repo.new.repos.entries c.args.entry.now.path) c.replace-head.ensures.value c.as_slice.ensures c.put_repo.ensures.here in
    let up = added_up c.self.inside.floor c.self.inside.front c.args.entry.now.position c.self.inside.repos.entries c.put_repo.new.repos.entries c.self.inside.members.entries c.self.inside.head c.none.result c.self.inside.puts c.args.entry.now next c.self.invariant.newest prepared given c.put_repo.ensures.others in
    let adds = added c.self.inside.floor c.self.inside.front c.args.entry.now.position c.self.inside.repos.entries c.put_repo.new.repos.entries c.self.inside.members.entries c.self.inside.head c.replace-head.new.dest c.self.inside.puts c.args.entry.now next c.self.invariant.newest prepared given c.put_repo.ensures.others in
    added_kept c.self.inside.floor c.self.inside.front c.args.entry.now.position c.self.inside.repos.entries c.put_repo.new.repos.entries c.self.inside.members.entries c.self.inside.head c.replace-head.new.dest c.self.inside.puts c.args.entry.now
    next up adds prepared c.self.invariant

pub returns : goal.returns
returns c =
    let next = rw (← c.self.view_is) at c.requires.next in
    let prepared = rw (← c.self.view_is) at c.requires.prepared in
    let given = as_given c.args.entry.now.position c.self.inside.head c.replace-head.result c.self.inside.puts c.as_slice.result.now (at_key c.self.inside.repos.entries c.args.entry.now.path) (at_key c.put_repo.new.repos.entries c.args.entry.now.path) c.replace-head.ensures.value c.as_slice.ensures c.put_repo.ensures.here in
    rw (← c.self.view_is) (added c.self.inside.floor c.self.inside.front c.args.entry.now.position c.self.inside.repos.entries c.put_repo.new.repos.entries c.self.inside.members.entries c.self.inside.head c.replace-head.new.dest c.self.inside.puts c.args.entry.now next c.self.invariant.newest prepared given c.put_repo.ensures.others)
