use Rattle.std.proofs.Common.{filter, map as list_map}
use Rattle.gt_model.specs.Contents.{at, is_this}
use Rattle.gt_versions.proofs.Keys.{at_key}
use Rattle.gt_objset.specs.Agree.{Agrees}
use Rattle.gt_objset.specs.Table.{head_in_slot}
use Rattle.gt_objset.specs.Places.{pool_in}
use Rattle.gt_objset.specs.Lists.{members}
use Rattle.gt_objset.proofs.TableLaws.{table}
use Rattle.gt_objset.proofs.ListedLaws.{members_listed, ok_listed}
use Rattle.gt_objset.proofs.MemberLaws.{covered}
use Rattle.gt_objset.proofs.objset.ObjSet.members.Goals as goal

pub paths_in_pool-requires : goal.paths_in_pool-requires
paths_in_pool-requires c =
    let low = rw (← c.self.view_is) at c.requires.from in
    covered c.self.inside.floor c.self.inside.front c.args.at c.self.inside.members.entries c.self.inside.repos.entries low c.self.invariant

pub returns : goal.returns
returns c =
    let low = rw (← c.self.view_is) at c.requires.from in
    let high = rw (← c.self.view_is) at c.requires.to in
    rw (← c.self.view_is) (ok_listed c.paths_in_pool.result (filter (λ q. is_this (pool_in (head_in_slot (at_key c.self.inside.repos.entries q) c.args.at)) c.args.path.now) (list_map (λ e. e.0) c.self.inside.repos.entries))
    (λ base log. Agrees (table c.self.inside.floor c.self.inside.front c.self.inside.repos.entries c.self.inside.members.entries c.self.inside.head c.self.inside.puts) base log) (λ base log. members (at c.self.inside.floor base log c.args.at) c.args.path.now)
    (λ base log h. members_listed c.self.inside.floor c.self.inside.front c.self.inside.repos.entries c.self.inside.members.entries c.self.inside.head c.self.inside.puts c.args.at low high base log h c.args.path.now c.paths_in_pool.ensures.ordered) c.paths_in_pool.ensures.paths)
