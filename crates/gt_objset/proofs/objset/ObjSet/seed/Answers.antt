use Rattle.gt_objset.proofs.SeedLaws.{floor_up, any_puts_up, any_object_seeded, any_same}
use Rattle.gt_objset.proofs.MemberLaws.{object_kept}
use Rattle.gt_objset.proofs.objset.ObjSet.seed.Goals as goal

pub seed_puts-requires : goal.seed_puts-requires
seed_puts-requires c =
    let first = rw (← c.self.view_is) at c.requires.first in
    floor_up c.self.inside.floor c.self.inside.repos.entries c.self.inside.repos.entries c.self.inside.members.entries c.self.inside.members.entries c.self.inside.head c.self.inside.puts c.self.inside.front first c.self.invariant.newest

pub invariant_of-self : goal.invariant_of-self
invariant_of-self c =
    let first = rw (← c.self.view_is) at c.requires.first in
    let there = rw (← c.self.view_is) at c.requires.there in
    let up = any_puts_up c.seed_puts.result c.self.inside.floor c.self.inside.front c.self.inside.repos.entries c.seed_puts.new.repos.entries c.self.inside.members.entries c.self.inside.members.entries c.self.inside.head c.self.inside.puts first c.self.invariant.newest c.args.name.now c.args.path.now c.args.place c.seed_puts.ensures.ok c.seed_puts.ensures.err in
    let ok = any_object_seeded c.seed_puts.result c.self.inside.floor c.self.inside.front c.self.inside.repos.entries c.seed_puts.new.repos.entries c.self.inside.members.entries c.self.inside.members.entries c.self.inside.head c.self.inside.puts first c.self.invariant.newest c.args.name.now c.args.path.now c.args.place there c.seed_puts.ensures.ok in
    let err = any_same c.seed_puts.result c.self.inside.floor c.self.inside.front c.self.inside.repos.entries c.seed_puts.new.repos.entries c.self.inside.members.entries c.self.inside.members.entries c.self.inside.head c.self.inside.puts first c.self.invariant.newest c.seed_puts.ensures.err in
    object_kept c.seed_puts.result c.self.inside.floor c.self.inside.front first c.self.inside.repos.entries c.seed_puts.new.repos.entries c.self.inside.members.entries c.self.inside.members.entries c.self.inside.head c.self.inside.puts c.args.path.now up c.self.invariant c.args.name.now c.args.place ok err

pub returns-clause-ok : goal.returns-clause-ok
returns-clause-ok c =
    let first = rw (← c.self.view_is) at c.requires.first in
    let there = rw (← c.self.view_is) at c.requires.there in
    rw (← c.self.view_is) (any_object_seeded c.seed_puts.result c.self.inside.floor c.self.inside.front c.self.inside.repos.entries c.seed_puts.new.repos.entries c.self.inside.members.entries c.self.inside.members.entries c.self.inside.head c.self.inside.puts first c.self.invariant.newest c.args.name.now c.args.path.now c.args.place there c.seed_puts.ensures.ok)

pub returns-clause-err : goal.returns-clause-err
returns-clause-err c =
    let first = rw (← c.self.view_is) at c.requires.first in
    rw (← c.self.view_is) (any_same c.seed_puts.result c.self.inside.floor c.self.inside.front c.self.inside.repos.entries c.seed_puts.new.repos.entries c.self.inside.members.entries c.self.inside.members.entries c.self.inside.head c.self.inside.puts first c.self.invariant.newest c.seed_puts.ensures.err)
