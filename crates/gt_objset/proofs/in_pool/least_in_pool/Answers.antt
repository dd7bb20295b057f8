use Rattle.std.proofs.Common.{◌∙◌}
use Rattle.gt_objset.proofs.MemberLaws.{none_least, some_least}
use Rattle.gt_objset.proofs.in_pool.least_in_pool.Goals as goal

pub returns-in-None-clause-least : goal.returns-in-None-clause-least
returns-in-None-clause-least c = none_least c.args.members.now.entries c.args.repos.now.entries c.args.at c.args.pool.now c.requires c.len.ensures.ordered c.in-None.ensures.value

pub returns-in-Some-clause-least : goal.returns-in-Some-clause-least
returns-in-Some-clause-least c = c.least_of.ensures.least
    ∙ some_least c.args.members.now.entries c.args.repos.now.entries c.args.at c.args.pool.now c.requires c.len.ensures.ordered c.in-Some.candidates.now c.in-Some.ensures.value c.least_of.ensures.ordered
