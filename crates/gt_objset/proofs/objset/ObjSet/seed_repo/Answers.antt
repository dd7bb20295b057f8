use Rattle.std.specs.Option.{option_copied}
use Rattle.gt_objset.proofs.SeedLaws.{any_repo_up, any_repo_seeded, any_same, any_kept}
use Rattle.gt_objset.specs.Places.{Head}
use Rattle.gt_objset.proofs.MemberLaws.{kept_more, repo_kept}
use Rattle.gt_objset.proofs.objset.ObjSet.seed_repo.Goals as goal

pub invariant_of-self : goal.invariant_of-self
invariant_of-self c = kept_more c.self.inside.floor c.self.inside.front c.self.inside.members.entries c.note_seed.new.members.entries c.self.inside.repos.entries c.note_seed.ensures.more c.self.invariant

pub invariant_of-self-2 : goal.invariant_of-self-2
invariant_of-self-2 c =
    let first = rw (← c.self.view_is) at c.requires.first in
    let what : Head = record { is_pool = c.args.is_pool; pool = option_copied c.args.pool } in
    let up = any_repo_up c.seed_repo.result c.self.inside.floor c.self.inside.front c.self.inside.repos.entries c.seed_repo.new.repos.entries c.self.inside.members.entries c.note_seed.new.members.entries c.self.inside.head c.self.inside.puts first c.self.invariant.newest c.args.path.now (record { is_pool = c.args.is_pool; pool = option_copied c.args.pool }) c.seed_repo.ensures.some c.seed_repo.ensures.here c.seed_repo.ensures.others c.seed_repo.ensures.err in
    let ok = any_repo_seeded c.seed_repo.result c.self.inside.floor c.self.inside.front c.self.inside.repos.entries c.seed_repo.new.repos.entries c.self.inside.members.entries c.note_seed.new.members.entries c.self.inside.head c.self.inside.puts first c.self.invariant.newest c.args.path.now (record { is_pool = c.args.is_pool; pool = option_copied c.args.pool }) c.seed_repo.ensures.some c.seed_repo.ensures.here c.seed_repo.ensures.others in
    let kept = any_kept c.seed_repo.result c.self.inside.floor c.self.inside.front c.self.inside.repos.entries c.seed_repo.new.repos.entries c.self.inside.members.entries c.note_seed.new.members.entries c.self.inside.head c.self.inside.puts first c.self.invariant.newest c.seed_repo.ensures.err in
    let err = any_same c.seed_repo.result c.self.inside.floor c.self.inside.front c.self.inside.repos.entries c.seed_repo.new.repos.entries c.self.inside.members.entries c.note_seed.new.members.entries c.self.inside.head c.self.inside.puts first c.self.invariant.newest kept in
    repo_kept c.seed_repo.result c.self.inside.floor c.self.inside.front first c.self.inside.repos.entries c.seed_repo.new.repos.entries c.self.inside.members.entries c.note_seed.new.members.entries c.self.inside.head c.self.inside.puts c.args.path.now up
    (kept_more c.self.inside.floor c.self.inside.front c.self.inside.members.entries c.note_seed.new.members.entries c.self.inside.repos.entries c.note_seed.ensures.more c.self.invariant) what ok err c.in_default.ensures.ok

pub returns-clause-ok : goal.returns-clause-ok
returns-clause-ok c =
    let first = rw (← c.self.view_is) at c.requires.first in
    rw (← c.self.view_is) (any_repo_seeded c.seed_repo.result c.self.inside.floor c.self.inside.front c.self.inside.repos.entries c.seed_repo.new.repos.entries c.self.inside.members.entries c.note_seed.new.members.entries c.self.inside.head c.self.inside.puts first c.self.invariant.newest c.args.path.now (record { is_pool = c.args.is_pool; pool = option_copied c.args.pool }) c.seed_repo.ensures.some c.seed_repo.ensures.here c.seed_repo.ensures.others)

pub returns-clause-err : goal.returns-clause-err
returns-clause-err c =
    let first = rw (← c.self.view_is) at c.requires.first in
    rw (← c.self.view_is) (any_same c.seed_repo.result c.self.inside.floor c.self.inside.front c.self.inside.repos.entries c.seed_repo.new.repos.entries c.self.inside.members.entries c.note_seed.new.members.entries c.self.inside.head c.self.inside.puts first c.self.invariant.newest (any_kept c.seed_repo.result c.self.inside.floor c.self.inside.front c.self.inside.repos.entries c.seed_repo.new.repos.entries c.self.inside.members.entries c.note_seed.new.members.entries c.self.inside.head c.self.inside.puts first c.self.invariant.newest c.seed_repo.ensures.err))
