use Rattle.std.proofs.Common.{◌≡◌, ℕ, List, IfOk, ◌∙◌, subst}
use Rattle.gt_objset.proofs.MemberLaws.{none_in_pool, some_in_pool}
use Rattle.gt_objset.proofs.in_pool.paths_in_pool.Goals as goal

pub returns-in-None-clause-paths : goal.returns-in-None-clause-paths
returns-in-None-clause-paths c = c.new.ensures ∙ none_in_pool c.args.members.now.entries c.args.repos.now.entries c.args.at c.args.pool.now c.requires c.len.ensures.ordered c.in-None.ensures.value

pub returns-in-Some-clause-paths : goal.returns-in-Some-clause-paths
returns-in-Some-clause-paths c =
    let P : List (List ℕ) → Type 0 = λ l. IfOk c.paths_of.result (λ paths. paths ≡ l) in
    subst P (some_in_pool c.args.members.now.entries c.args.repos.now.entries c.args.at c.args.pool.now c.requires c.len.ensures.ordered c.in-Some.candidates.now c.in-Some.ensures.value c.paths_of.ensures.ordered) c.paths_of.ensures.paths
