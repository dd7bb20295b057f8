use Rattle.std.proofs.Common.{◌+◌}
use Rattle.gt_objset.proofs.TableLaws.{same_table, ready}
use Rattle.gt_objset.proofs.MemberLaws.{kept_more, kept_same}
use Rattle.gt_objset.proofs.objset.ObjSet.prepare.Goals as goal

pub invariant_of-self : goal.invariant_of-self
invariant_of-self c = kept_more c.self.inside.floor c.self.inside.front c.self.inside.members.entries c.note.new.members.entries c.self.inside.repos.entries c.note.ensures.more c.self.invariant

pub invariant_of-self-in-Err-reserve_repo : goal.invariant_of-self-in-Err-reserve_repo
invariant_of-self-in-Err-reserve_repo c = kept_same c.self.inside.floor c.self.inside.front c.note.new.members.entries c.self.inside.repos.entries c.reserve_repo.new.repos.entries c.reserve_repo.ensures.same
    (kept_more c.self.inside.floor c.self.inside.front c.self.inside.members.entries c.note.new.members.entries c.self.inside.repos.entries c.note.ensures.more c.self.invariant)

pub returns-in-Err-reserve_repo-clause-same : goal.returns-in-Err-reserve_repo-clause-same
returns-in-Err-reserve_repo-clause-same c = rw (← c.self.view_is) (same_table c.self.inside.floor c.self.inside.front c.self.inside.repos.entries c.reserve_repo.new.repos.entries c.reserve_repo.ensures.same c.self.inside.members.entries c.note.new.members.entries c.self.inside.head c.self.inside.head c.self.inside.puts c.self.inside.puts)

pub invariant_of-self-2 : goal.invariant_of-self-2
invariant_of-self-2 c = kept_same c.self.inside.floor c.self.inside.front c.note.new.members.entries c.self.inside.repos.entries c.reserve_repo.new.repos.entries c.reserve_repo.ensures.same
    (kept_more c.self.inside.floor c.self.inside.front c.self.inside.members.entries c.note.new.members.entries c.self.inside.repos.entries c.note.ensures.more c.self.invariant)

pub returns-clause-same : goal.returns-clause-same
returns-clause-same c = rw (← c.self.view_is) (same_table c.self.inside.floor c.self.inside.front c.self.inside.repos.entries c.reserve_repo.new.repos.entries c.reserve_repo.ensures.same c.self.inside.members.entries c.note.new.members.entries c.self.inside.head c.in-Ok.head c.self.inside.puts c.in-Ok-puts_of.puts)

pub returns-clause-ok : goal.returns-clause-ok
returns-clause-ok c = ready c.self.inside.floor c.self.inside.front c.self.inside.repos.entries c.reserve_repo.new.repos.entries c.reserve_repo.ensures.same c.note.new.members.entries c.in-Ok.head c.in-Ok-puts_of.puts c.as_slice.result.now c.args.entry.now
    c.in-Ok.ensures c.in-Ok-puts_of.ensures c.as_slice.ensures (c.in_default-reserve_repo.ensures.ok (c.self.inside.front + 1)) c.in_default.ensures.ok
