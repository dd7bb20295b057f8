use Rattle.std.proofs.Common.{◌∙◌}
use Rattle.gt_objset.proofs.ListedLaws.{least_listed}
use Rattle.gt_objset.proofs.MemberLaws.{covered}
use Rattle.gt_objset.proofs.objset.ObjSet.least_member.Goals as goal

pub least_in_pool-requires : goal.least_in_pool-requires
least_in_pool-requires c =
    let low = rw (← c.self.view_is) at c.requires.from in
    covered c.self.inside.floor c.self.inside.front c.args.at c.self.inside.members.entries c.self.inside.repos.entries low c.self.invariant

pub returns : goal.returns
returns c =
    let low = rw (← c.self.view_is) at c.requires.from in
    let high = rw (← c.self.view_is) at c.requires.to in
    rw (← c.self.view_is) (λ base log h. c.least_in_pool.ensures.least ∙ least_listed c.self.inside.floor c.self.inside.front c.self.inside.repos.entries c.self.inside.members.entries c.self.inside.head c.self.inside.puts c.args.at low high base log h c.args.path.now c.least_in_pool.ensures.ordered)
